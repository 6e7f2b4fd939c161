-- A row that writes writes to an assembly that is there, as many bytes as it has.
use Rattle.std.proofs.Common.{◌≡◌, ℕ, cond, eqb, ltb, List, length, refl, sym, subst, arith, Option, Some, None}
use Rattle.std.specs.Prelude.{IsSomeAnd}
use Rattle.std.specs.FinMap as map
use Rattle.std.proofs.lemmas.Bool.{cond_both, ltb-false}
use Rattle.cip_segment.specs.Reading.{segments_of}
use Rattle.cip_message.specs.Request.{Request}
use Rattle.cip_target.specs.declared.identity.IdentityFields.{IdentityFields}
use Rattle.cip_target.specs.declared.object.ObjectPath.{ObjectPath}
use Rattle.cip_target.specs.declared.rows.TargetRefusal.TheVariants.{ClassNotSupported, NoSuchInstance, ServiceNotSupported, DataShort, DataLong}
use Rattle.cip_target.specs.Identity.{identity_bytes}
use Rattle.cip_target.specs.Object.{object_of}
use Rattle.cip_target.specs.Assemblies.{AssemblyMap}
use Rattle.cip_target.specs.Rows.{TargetRow, Refused, Read, Written, Reset, read_row, get_row, reset_row, set_identity_row, set_assembly_row}
use Rattle.cip_target.specs.Rows.{identity_attribute, assembly_attribute, identity_row, assembly_row, object_row, path_row, target_row}

abbrev pub IsThere : AssemblyMap → TargetRow → Type 0
IsThere m (Refused refusal) = Unit {0}
IsThere m (Read found) = Unit {0}
IsThere m (Written i d) = IsSomeAnd (map.get m i) (λ held. length d ≡ length held)
IsThere m Reset = Unit {0}

read_there : (m : AssemblyMap) (found d : List ℕ) → IsThere m (read_row found d)
read_there m found d = cond_both (eqb (length d) 0) (Read found) (Refused DataLong) (IsThere m) (λ e. tt) (λ e. tt)

get_there : (m : AssemblyMap) (o : Option (List ℕ)) (d : List ℕ) → IsThere m (get_row o d)
get_there m None d = tt
get_there m (Some found) d = read_there m found d

reset_there : (m : AssemblyMap) (d : List ℕ) → IsThere m (reset_row d)
reset_there m d = cond_both (ltb 1 (length d)) (Refused DataLong) Reset (IsThere m) (λ e. tt) (λ e. tt)

set_identity_there : (m : AssemblyMap) (o : Option (List ℕ)) → IsThere m (set_identity_row o)
set_identity_there m None = tt
set_identity_there m (Some found) = tt

identity_there : (m : AssemblyMap) (f : IdentityFields) (service : ℕ) (a : Option ℕ) (d : List ℕ) → IsThere m (identity_row f service a d)
identity_there m f service a d =
    cond_both (eqb service 0x01) (read_row (identity_bytes f) d)
    (cond (eqb service 0x05) (reset_row d) (cond (eqb service 0x0E) (get_row (identity_attribute f a) d)
    (cond (eqb service 0x10) (set_identity_row (identity_attribute f a)) (Refused ServiceNotSupported)))) (IsThere m)
    (λ e. read_there m (identity_bytes f) d)
    (λ e. cond_both (eqb service 0x05) (reset_row d)
    (cond (eqb service 0x0E) (get_row (identity_attribute f a) d)
    (cond (eqb service 0x10) (set_identity_row (identity_attribute f a)) (Refused ServiceNotSupported))) (IsThere m)
    (λ e. reset_there m d)
    (λ e. cond_both (eqb service 0x0E) (get_row (identity_attribute f a) d)
    (cond (eqb service 0x10) (set_identity_row (identity_attribute f a)) (Refused ServiceNotSupported)) (IsThere m)
    (λ e. get_there m (identity_attribute f a) d)
    (λ e. cond_both (eqb service 0x10) (set_identity_row (identity_attribute f a)) (Refused ServiceNotSupported) (IsThere m)
    (λ e. set_identity_there m (identity_attribute f a)) (λ e. tt))))

-- the attribute of an assembly is its data, or there is none
set_there : (m : AssemblyMap) (i : ℕ) (held d : List ℕ) → map.get m i ≡ Some held → IsThere m (set_assembly_row i (Some held) d)
set_there m i held d found =
    cond_both (ltb (length d) (length held)) (Refused DataShort) (cond (ltb (length held) (length d)) (Refused DataLong) (Written i d)) (IsThere m)
    (λ e. tt)
    (λ short. cond_both (ltb (length held) (length d)) (Refused DataLong) (Written i d) (IsThere m) (λ e. tt)
    (λ long.
    let same : length d ≡ length held = omega (arith, ltb-false _ _ short, ltb-false _ _ long) in
    subst (λ (o : Option (List ℕ)). IsSomeAnd o (λ h. length d ≡ length h)) (sym found) same))

data_there : (m : AssemblyMap) (i : ℕ) (held : List ℕ) (a : Option ℕ) (d : List ℕ) → map.get m i ≡ Some held
    → IsThere m (set_assembly_row i (assembly_attribute held a) d)
data_there m i held None d found = tt
data_there m i held (Some a) d found =
    cond_both (eqb a 3) (Some held) None (λ o. IsThere m (set_assembly_row i o d)) (λ e. set_there m i held d found) (λ e. tt)

held_there : (m : AssemblyMap) (i : ℕ) (held : List ℕ) (service : ℕ) (a : Option ℕ) (d : List ℕ) → map.get m i ≡ Some held
    → IsThere m (assembly_row i (Some held) service a d)
held_there m i held service a d found =
    cond_both (eqb service 0x0E) (get_row (assembly_attribute held a) d)
    (cond (eqb service 0x10) (set_assembly_row i (assembly_attribute held a) d) (Refused ServiceNotSupported)) (IsThere m)
    (λ e. get_there m (assembly_attribute held a) d)
    (λ e. cond_both (eqb service 0x10) (set_assembly_row i (assembly_attribute held a) d) (Refused ServiceNotSupported) (IsThere m)
    (λ e. data_there m i held a d found) (λ e. tt))

assembly_there : (m : AssemblyMap) (i service : ℕ) (a : Option ℕ) (d : List ℕ) → IsThere m (assembly_row i (map.get m i) service a d)
assembly_there m i service a d =
    elim (map.get m i) as (λ (o : Option (List ℕ)). map.get m i ≡ o → IsThere m (assembly_row i o service a d)) [
      | None ↦ λ e. tt
      | Some held ↦ λ e. held_there m i held service a d e
    ] refl

object_there : (f : IdentityFields) (m : AssemblyMap) (o : ObjectPath) (service : ℕ) (d : List ℕ) → IsThere m (object_row f m o service d)
object_there f m o service d =
    cond_both (eqb o.class_ 1) (cond (eqb o.instance 1) (identity_row f service o.attribute d) (Refused NoSuchInstance))
    (cond (eqb o.class_ 4) (assembly_row o.instance (map.get m o.instance) service o.attribute d) (Refused ClassNotSupported)) (IsThere m)
    (λ e. cond_both (eqb o.instance 1) (identity_row f service o.attribute d) (Refused NoSuchInstance) (IsThere m)
    (λ e. identity_there m f service o.attribute d) (λ e. tt))
    (λ e. cond_both (eqb o.class_ 4) (assembly_row o.instance (map.get m o.instance) service o.attribute d) (Refused ClassNotSupported) (IsThere m)
    (λ e. assembly_there m o.instance service o.attribute d) (λ e. tt))

path_there : (f : IdentityFields) (m : AssemblyMap) (o : Option ObjectPath) (service : ℕ) (d : List ℕ) → IsThere m (path_row f m o service d)
path_there f m None service d = tt
path_there f m (Some o) service d = object_there f m o service d

pub target_there : (f : IdentityFields) (m : AssemblyMap) (r : Request) → IsThere m (target_row f m r)
unfolding target_row
target_there f m r = path_there f m (object_of (segments_of r.path)) r.service r.data_
