-- Which requests have the row of a reset.
use Rattle.std.proofs.Common.{◌≡◌, ◌≤◌, ℕ, Bool, true, false, cond, eqb, ltb, List, length, refl, sym, ap, subst, ◌∙◌, arith, Option, Some, None}
use Rattle.std.specs.Prelude.{◌↔◌, IsTrue, IsSomeAnd}
use Rattle.std.specs.FinMap as map
use Rattle.std.proofs.lemmas.Bool.{cond_both, eqb-true, ltb-false, ne_eqb}
use Rattle.std.proofs.lemmas.Bool.Decides.{nat_tests}
use Rattle.cip_segment.specs.Reading.{segments_of}
use Rattle.cip_message.specs.Request.{Request}
use Rattle.cip_target.specs.declared.identity.IdentityFields.{IdentityFields}
use Rattle.cip_target.specs.declared.object.ObjectPath.{ObjectPath}
use Rattle.cip_target.specs.declared.rows.TargetRefusal.TheVariants.{ClassNotSupported, NoSuchInstance, ServiceNotSupported, DataShort, DataLong}
use Rattle.cip_target.specs.Identity.{identity_bytes}
use Rattle.cip_target.specs.Object.{object_of}
use Rattle.cip_target.specs.Assemblies.{AssemblyMap}
use Rattle.cip_target.specs.Rows.{TargetRow, Refused, Read, Written, Reset, is_reset, read_row, get_row, reset_row, set_identity_row, set_assembly_row}
use Rattle.cip_target.specs.Rows.{identity_attribute, assembly_attribute, identity_row, assembly_row, object_row, path_row, target_row}
use Rattle.cip_target.specs.Objects.{Objects, IsReset, reads_reset}

abbrev Resets : TargetRow → Type 0
Resets row = IsTrue (is_reset row)

-- ---- other rows are none

not_read : (found d : List ℕ) → Resets (read_row found d) → ⊥
not_read found d = cond_both (eqb (length d) 0) (Read found) (Refused DataLong) (λ row. Resets row → ⊥) (λ e h. cc) (λ e h. cc)

not_get : (o : Option (List ℕ)) (d : List ℕ) → Resets (get_row o d) → ⊥
not_get None d h = cc
not_get (Some found) d h = not_read found d h

not_set_identity : (o : Option (List ℕ)) → Resets (set_identity_row o) → ⊥
not_set_identity None h = cc
not_set_identity (Some found) h = cc

not_set_assembly : (i : ℕ) (o : Option (List ℕ)) (d : List ℕ) → Resets (set_assembly_row i o d) → ⊥
not_set_assembly i None d h = cc
not_set_assembly i (Some held) d h =
    cond_both (ltb (length d) (length held)) (Refused DataShort) (cond (ltb (length held) (length d)) (Refused DataLong) (Written i d)) (λ row. Resets row → ⊥)
    (λ e h. cc)
    (λ e. cond_both (ltb (length held) (length d)) (Refused DataLong) (Written i d) (λ row. Resets row → ⊥) (λ e h. cc) (λ e h. cc)) h

not_assembly : (i : ℕ) (o : Option (List ℕ)) (service : ℕ) (a : Option ℕ) (d : List ℕ) → Resets (assembly_row i o service a d) → ⊥
not_assembly i None service a d h = cc
not_assembly i (Some held) service a d h =
    cond_both (eqb service 0x0E) (get_row (assembly_attribute held a) d)
    (cond (eqb service 0x10) (set_assembly_row i (assembly_attribute held a) d) (Refused ServiceNotSupported)) (λ row. Resets row → ⊥)
    (λ e. not_get (assembly_attribute held a) d)
    (λ e. cond_both (eqb service 0x10) (set_assembly_row i (assembly_attribute held a) d) (Refused ServiceNotSupported) (λ row. Resets row → ⊥)
    (λ e. not_set_assembly i (assembly_attribute held a) d) (λ e h. cc)) h

-- ---- what a reset is

short : (d : List ℕ) → Resets (reset_row d) → length d ≤ 1
short d = cond_both (ltb 1 (length d)) (Refused DataLong) Reset (λ row. Resets row → length d ≤ 1) (λ e h. absurd (cc)) (λ e h. ltb-false 1 (length d) e)

abbrev OfIdentity : ℕ → List ℕ → Type 0
OfIdentity service d = (service ≡ 0x05) × (length d ≤ 1)

of_identity : (f : IdentityFields) (service : ℕ) (a : Option ℕ) (d : List ℕ) → Resets (identity_row f service a d) → OfIdentity service d
of_identity f service a d =
    cond_both (eqb service 0x01) (read_row (identity_bytes f) d)
    (cond (eqb service 0x05) (reset_row d) (cond (eqb service 0x0E) (get_row (identity_attribute f a) d)
    (cond (eqb service 0x10) (set_identity_row (identity_attribute f a)) (Refused ServiceNotSupported)))) (λ row. Resets row → OfIdentity service d)
    (λ e h. absurd (not_read (identity_bytes f) d h))
    (λ e. cond_both (eqb service 0x05) (reset_row d)
    (cond (eqb service 0x0E) (get_row (identity_attribute f a) d)
    (cond (eqb service 0x10) (set_identity_row (identity_attribute f a)) (Refused ServiceNotSupported))) (λ row. Resets row → OfIdentity service d)
    (λ five h. (eqb-true service 0x05 five, short d h))
    (λ e. cond_both (eqb service 0x0E) (get_row (identity_attribute f a) d)
    (cond (eqb service 0x10) (set_identity_row (identity_attribute f a)) (Refused ServiceNotSupported)) (λ row. Resets row → OfIdentity service d)
    (λ e h. absurd (not_get (identity_attribute f a) d h))
    (λ e. cond_both (eqb service 0x10) (set_identity_row (identity_attribute f a)) (Refused ServiceNotSupported) (λ row. Resets row → OfIdentity service d)
    (λ e h. absurd (not_set_identity (identity_attribute f a) h)) (λ e h. absurd (cc)))))

abbrev OfObject : ObjectPath → ℕ → List ℕ → Type 0
OfObject o service d = ((o.class_ ≡ 1) × (o.instance ≡ 1)) × OfIdentity service d

of_object : (f : IdentityFields) (m : AssemblyMap) (o : ObjectPath) (service : ℕ) (d : List ℕ) → Resets (object_row f m o service d) → OfObject o service d
of_object f m o service d =
    cond_both (eqb o.class_ 1) (cond (eqb o.instance 1) (identity_row f service o.attribute d) (Refused NoSuchInstance))
    (cond (eqb o.class_ 4) (assembly_row o.instance (map.get m o.instance) service o.attribute d) (Refused ClassNotSupported))
    (λ row. Resets row → OfObject o service d)
    (λ class_. cond_both (eqb o.instance 1) (identity_row f service o.attribute d) (Refused NoSuchInstance) (λ row. Resets row → OfObject o service d)
    (λ instance h. ((eqb-true o.class_ 1 class_, eqb-true o.instance 1 instance), of_identity f service o.attribute d h)) (λ e h. absurd (cc)))
    (λ e. cond_both (eqb o.class_ 4) (assembly_row o.instance (map.get m o.instance) service o.attribute d) (Refused ClassNotSupported)
    (λ row. Resets row → OfObject o service d)
    (λ e h. absurd (not_assembly o.instance (map.get m o.instance) service o.attribute d h)) (λ e h. absurd (cc)))

abbrev OfPath : Option ObjectPath → ℕ → List ℕ → Type 0
OfPath o service d = IsSomeAnd o (λ o. (o.class_ ≡ 1) × (o.instance ≡ 1)) × OfIdentity service d

of_path : (f : IdentityFields) (m : AssemblyMap) (o : Option ObjectPath) (service : ℕ) (d : List ℕ) → Resets (path_row f m o service d) → OfPath o service d
of_path f m None service d h = absurd (cc)
of_path f m (Some o) service d h = of_object f m o service d h

-- ---- and what is one

object_resets : (f : IdentityFields) (m : AssemblyMap) (o : ObjectPath) (service : ℕ) (d : List ℕ) → OfObject o service d → object_row f m o service d ≡ Reset
object_resets f m o service d h =
    let least = h.1.1 in
    let few : ltb 1 (length d) ≡ false = grind (arith, nat_tests) in
    ap (λ (n : ℕ). cond (eqb n 1) (cond (eqb o.instance 1) (identity_row f service o.attribute d) (Refused NoSuchInstance))
    (cond (eqb n 4) (assembly_row o.instance (map.get m o.instance) service o.attribute d) (Refused ClassNotSupported))) h.0.0
    ∙ ap (λ (n : ℕ). cond (eqb n 1) (identity_row f service o.attribute d) (Refused NoSuchInstance)) h.0.1
    ∙ ap (λ (n : ℕ). identity_row f n o.attribute d) h.1.0
    ∙ ap (λ (b : Bool). cond b (Refused DataLong) Reset) few

path_resets : (f : IdentityFields) (m : AssemblyMap) (o : Option ObjectPath) (service : ℕ) (d : List ℕ) → OfPath o service d
    → path_row f m o service d ≡ Reset
path_resets f m None service d h = absurd h.0
path_resets f m (Some o) service d h = object_resets f m o service d h

pub what_resets : (t : Objects) (r : Request) → IsTrue (reads_reset t r) ↔ IsReset r
unfolding target_row
what_resets t r = (
  λ h. let is = of_path t.identity t.assemblies (object_of (segments_of r.path)) r.service r.data_ h in
      record { service = is.1.0; object = is.0; data_ = is.1.1 },
  λ is. subst Resets (sym (path_resets t.identity t.assemblies (object_of (segments_of r.path)) r.service r.data_ (is.object, (is.service, is.data_)))) refl,
)

-- another service is none
pub other_service : (t : Objects) (r : Request) → (r.service ≡ 0x05 → ⊥) → eqb r.service 0x05 ≡ reads_reset t r
other_service t r other =
    ne_eqb r.service 0x05 other
    ∙ elim (reads_reset t r) as (λ (b : Bool). reads_reset t r ≡ b → false ≡ b) [
      | true ↦ λ h. absurd (other ((what_resets t r).0 h).service)
      | false ↦ λ h. refl
    ] refl
