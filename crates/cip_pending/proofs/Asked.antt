-- What waits for a reply by a port from an address was asked by that port and there.
use Rattle.std.proofs.Common.{◌≡◌, ℕ, Bool, true, false, cond, List, Option, Some, None, refl, sym, ap, ◌∙◌, eqb}
use Rattle.std.specs.FinMap as map
use Rattle.std.specs.Str.{bytes_eq}
use Rattle.std.specs.Option.{option_and_then}
use Rattle.std.proofs.lemmas.Bool.{and_parts, eqb-true}
use Rattle.std.proofs.lemmas.Slice.Eq.{bytes_eq-Decides}
use Rattle.cip_pending.specs.declared.entry.Entry as entries
use Rattle.cip_pending.specs.Pendings.{Pendings, is_asked, waiting_at}

pub asked_there : (p : Pendings) (n port : ℕ) (from : List ℕ) (entry : entries.Entry) → waiting_at p n port from ≡ Some entry
    → (entry.port ≡ port) × (entry.address ≡ from)
asked_there p n port from entry e =
    elim (map.get p.entries n) as (λ (g : Option entries.Entry). option_and_then (λ x. cond (is_asked port from x) (Some x) None) g ≡ Some entry
    → (entry.port ≡ port) × (entry.address ≡ from)) [
      | None ↦ λ s. absurd (cc)
      | Some x ↦ λ s. asked_so x (is_asked port from x) refl s
    ] e
  where
    asked_so : (x : entries.Entry) (b : Bool) → is_asked port from x ≡ b → cond b (Some x) None ≡ Some entry → (entry.port ≡ port) × (entry.address ≡ from)
    asked_so x true t s =
        let both = and_parts (eqb x.port port) (bytes_eq x.address from) t in
        let same : x ≡ entry = cc in (
          ap (λ (y : entries.Entry). y.port) (sym same) ∙ eqb-true x.port port both.0,
          ap (λ (y : entries.Entry). y.address) (sym same)
              ∙ (bytes_eq-Decides x.address from).0 both.1,
        )
    asked_so x false t s = absurd (cc)
