-- A path that begins with an electronic key begins with its segment byte.
use Rattle.std.proofs.Common.{◌≡◌, ℕ, List, [], ◌∷◌, ◌++◌, refl, sym, ap, ◌∙◌, Option, Some, None}
use Rattle.std.specs.Prelude.{slice_index}
use Rattle.std.proofs.Math.Logic.{∥∥₁_elim}
use Rattle.cip_segment.specs.declared.segment.Segment.{Segment}
use Rattle.cip_segment.specs.declared.segment.Segment.TheVariants.{Port, Class, Instance, Member, Point, Attribute, Key, Words, Symbol, Inhibit}
use Rattle.cip_segment.specs.Spelling.{Spells, IsReadable}
use Rattle.cip_segment.specs.Reading.{segments_of}
use Rattle.cip_segment.proofs.PathsRead.{segments_of-Spells}
use Rattle.cip_config.specs.declared.config.ModuleSettings.{ModuleSettings}
use Rattle.cip_routing.specs.declared.refusals.KeyPart.{KeyPart}
use Rattle.cip_routing.specs.Keys.{leading_mismatch}

abbrev no_part : Option KeyPart
no_part = None

module _ (config : ModuleSettings) (b : List ℕ) (other : slice_index b 0 ≡ 0x34 → ⊥) where
  spelled : (s : List Segment) → Spells b s → leading_mismatch config s ≡ None
  spelled [] sp = refl
  spelled (Port q a ∷ t) sp = refl
  spelled (Class n ∷ t) sp = refl
  spelled (Instance n ∷ t) sp = refl
  spelled (Member n ∷ t) sp = refl
  spelled (Point n ∷ t) sp = refl
  spelled (Attribute n ∷ t) sp = refl
  spelled (Key k ∷ t) (x, y, parts, (v, d, p, vendor, type_, product, major, minor, is), others) =
      absurd (other (ap (λ (z : List ℕ). slice_index z 0) (parts ∙ ap (λ (z : List ℕ). z ++ y) is)))
  spelled (Words d ∷ t) sp = refl
  spelled (Symbol d ∷ t) sp = refl
  spelled (Inhibit n ∷ t) sp = refl

  pub no_key : IsReadable b → leading_mismatch config (segments_of b) ≡ None
  no_key read =
      elim (leading_mismatch config (segments_of b)) as (λ (r : Option KeyPart). leading_mismatch config (segments_of b) ≡ r → r ≡ None) [
        | None ↦ λ e. refl
        | Some part ↦ λ e. absurd (∥∥₁_elim read.1 (λ x y. absurd x) (λ t.
            let both : Some part ≡ no_part =
            sym e ∙ ap (leading_mismatch config) (segments_of-Spells b t.0 read t.1) ∙ spelled t.0 t.1 in cc))
      ] refl
