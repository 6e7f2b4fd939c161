-- A reply that was waited for: its request, and that the tables of a module fit one another after it.
use Rattle.std.proofs.Common.{◌≡◌, ℕ, true, false, cond, refl, Option, Some, None, is_some, List}
use Rattle.std.specs.Prelude.{option_and_then}
use Rattle.std.specs.FinMap as map
use Rattle.cip_base.specs.declared.triad.Triad.{Triad}
use Rattle.cip_pending.specs.declared.entry.Entry.{Entry}
use Rattle.cip_pending.specs.Kinds.{opened_triad}
use Rattle.cip_pending.specs.Pendings.{Pendings, without, waiting_at, is_asked}
use Rattle.cip_hops.specs.declared.hop.Held.{Held}
use Rattle.cip_hops.specs.declared.hop.Held.TheVariants.{Opening as IsOpening, Open}
use Rattle.cip_hops.specs.Hops.{Hops, as_opening, finished}
use Rattle.cip_target.specs.Ends.{Ends}
use Rattle.cip_config.specs.declared.config.ModuleSettings.{ModuleSettings}
use Rattle.cip_routing.specs.Code.Fit.{Fit}
use Rattle.cip_routing.specs.Paired.{IsAwaited}
use Rattle.cip_routing.proofs.Kept.{fit_finishes}

pub waits_at : (p : Pendings) (n port : ℕ) (address : List ℕ) (entry : Entry) → waiting_at p n port address ≡ Some entry → map.get p.entries n ≡ Some entry
waits_at p n port address entry e =
    elim (map.get p.entries n) as (λ (g : Option Entry). option_and_then (λ x. cond (is_asked port address x) (Some x) None) g ≡ Some entry → g ≡ Some entry) [
      | None ↦ λ s. absurd (cc)
      | Some x ↦ λ s. elim (is_asked port address x) as (λ b. cond b (Some x) None ≡ Some entry → Some x ≡ Some entry)
          [ true ↦ λ t. t | false ↦ λ t. absurd (cc) ] s
    ] e

pub awaited_at : (p : Pendings) (n port : ℕ) (address : List ℕ) (entry : Entry) (triad : Triad) → waiting_at p n port address ≡ Some entry
    → opened_triad entry.kind ≡ Some triad → IsAwaited p triad n
awaited_at p n port address entry triad e kind = record { entry = entry; waits = waits_at p n port address entry e; kind = kind }

by_held : (config : ModuleSettings) (p after : Pendings) (h new : Hops) (t : Ends) (ops : List ℕ) (n their_id now : ℕ) (triad : Triad) (x : Option Held)
    → map.get h.held triad ≡ x → is_some (option_and_then as_opening x) ≡ true
    → Fit config p h t ops → IsAwaited p triad n → after ≡ without p n → new ≡ finished h triad their_id now → Fit config after new t ops
by_held config p after h new t ops n their_id now triad None at some f a e g = absurd (cc)
by_held config p after h new t ops n their_id now triad (Some (IsOpening o ids)) at some f a e g =
    fit_finishes config p after h new t ops n their_id now triad o ids f a e at g
by_held config p after h new t ops n their_id now triad (Some (Open hop)) at some f a e g = absurd (cc)

pub fit_finished : (config : ModuleSettings) (p after : Pendings) (h new : Hops) (t : Ends) (ops : List ℕ) (n their_id now : ℕ) (triad : Triad)
    → Fit config p h t ops → IsAwaited p triad n → after ≡ without p n → new ≡ finished h triad their_id now → Fit config after new t ops
fit_finished config p after h new t ops n their_id now triad f a e g =
    by_held config p after h new t ops n their_id now triad (map.get h.held triad) refl (f.paired.each triad n a) f a e g
