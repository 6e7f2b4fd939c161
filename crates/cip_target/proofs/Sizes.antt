-- That each call keeps the sizes of the assemblies.
use Rattle.std.proofs.Common.{◌≡◌, ℕ, ◌≤◌, true, false, cond, List, [], length, take, refl, sym, ap, ◌∙◌, Option, Some, None, Ok}
use Rattle.std.specs.Prelude.{IsSomeAnd}
use Rattle.std.specs.Option.{option_map, option_map_or}
use Rattle.std.specs.Ordering.{nat_cmp, eq_by_cmp}
use Rattle.std.specs.Cmp.{nat_cmp_total}
use Rattle.std.specs.FinMap as map
use Rattle.std.proofs.lemmas.List.{length-take-le}
use Rattle.cip_segment.specs.Reading.{segments_of}
use Rattle.cip_message.specs.Request.{Request}
use Rattle.cip_open.specs.Open.{Open}
use Rattle.cip_target.specs.declared.config.AssemblyConfig.{AssemblyConfig}
use Rattle.cip_target.specs.declared.link.EndLink.{EndLink}
use Rattle.cip_target.specs.ApplicationPath.{Application, application_of}
use Rattle.cip_target.specs.Assemblies.{AssemblyMap, HasSize, size_in, written_over}
use Rattle.cip_target.specs.Rows.{TargetRow, Refused, Read, Written, Reset, target_row, assemblies_after}
use Rattle.cip_target.specs.Ends.{Ends, HasSizes, ends_after, row_at, accepted, consumed, reset}
use Rattle.cip_target.proofs.Holding.{tie}
use Rattle.cip_target.proofs.Writes.{IsThere, target_there}
use Rattle.cip_target.proofs.Fitting.{FitsWith, fitting}
use Rattle.cip_target.proofs.Resets.{reset_sizes}

insert_sizes : (m : AssemblyMap) (i : ℕ) (held d : List ℕ) → map.get m i ≡ Some held → length d ≡ length held → (j : ℕ)
    → size_in (map.insert m i d) j ≡ size_in m j
insert_sizes m i held d at same j =
    ap (option_map length) (map.get-insert nat_cmp_total m i d j)
    ∙ elim (eq_by_cmp nat_cmp j i) as (λ b. eq_by_cmp nat_cmp j i ≡ b → option_map length (cond b (Some d) (map.get m j)) ≡ size_in m j) [
      | true ↦ λ t. ap (λ (n : ℕ). Some n) same ∙ ap (option_map length) (sym at) ∙ ap (size_in m) (tie j i t)
      | false ↦ λ t. refl
    ] refl

-- where as many bytes are written
pub put_sizes : (m : AssemblyMap) (i : ℕ) (d : List ℕ) → HasSize m i (length d) → (j : ℕ) → size_in (map.insert m i d) j ≡ size_in m j
put_sizes m i d has j =
    elim (map.get m i) as (λ (o : Option (List ℕ)). map.get m i ≡ o → IsSomeAnd o (λ held. length d ≡ length held)
    → size_in (map.insert m i d) j ≡ size_in m j) [
      | None ↦ λ at h. absurd h
      | Some held ↦ λ at h. insert_sizes m i held d at h j
    ] refl has

-- where as many are written as the assembly has
pub written_sizes : (m : AssemblyMap) (i : ℕ) (b : List ℕ) → IsSomeAnd (map.get m i) (λ held. length held ≤ length b) → (j : ℕ)
    → size_in (written_over m i b (map.get m i)) j ≡ size_in m j
written_sizes m i b long j =
    elim (map.get m i) as (λ (o : Option (List ℕ)). map.get m i ≡ o → IsSomeAnd o (λ held. length held ≤ length b)
    → size_in (written_over m i b o) j ≡ size_in m j) [
      | None ↦ λ at h. refl
      | Some held ↦ λ at h. insert_sizes m i held (take (length held) b) at (length-take-le (length held) b h) j
    ] refl long

pub row_sizes : (m : AssemblyMap) (row : TargetRow) → IsThere m row → (j : ℕ) → size_in (assemblies_after m row) j ≡ size_in m j
row_sizes m (Refused refusal) there j = refl
row_sizes m (Read found) there j = refl
row_sizes m (Written i d) there j = put_sizes m i d there j
row_sizes m Reset there j = refl

-- ---- each call

pub answered_sizes : (t : Ends) (configs : List AssemblyConfig) (r : Request) → HasSizes t configs → HasSizes (ends_after t r) configs
answered_sizes t configs r has i =
    let m = t.objects.assemblies in
    row_sizes m (target_row t.objects.identity m r) (target_there t.objects.identity m r) i ∙ has i

pub accepted_sizes : (t : Ends) (configs : List AssemblyConfig) (o : Open) (link : EndLink) → row_at t o ≡ Ok link → HasSizes t configs
    → HasSizes (accepted t link o) configs
accepted_sizes t configs o link fits has i =
    let m = t.objects.assemblies in
    elim (application_of (segments_of o.path)) as (λ (p : Option Application). FitsWith m link p
    → size_in (written_over m link.config (option_map_or (λ a. a.bytes) p []) (map.get m link.config)) i ≡ size_in m i) [
      | None ↦ λ h. absurd h
      | Some a ↦ λ h. written_sizes m link.config a.bytes h i
    ] (fitting t o link fits)
    ∙ has i

pub consumed_sizes : (t : Ends) (configs : List AssemblyConfig) (i : ℕ) (d : List ℕ) → HasSize t.objects.assemblies i (length d) → HasSizes t configs
    → HasSizes (consumed t i d) configs
consumed_sizes t configs i d sized has j = put_sizes t.objects.assemblies i d sized j ∙ has j

pub reset_keeps : (t : Ends) (configs : List AssemblyConfig) → HasSizes t configs → HasSizes (reset t) configs
reset_keeps t configs has i = reset_sizes t.objects.assemblies i ∙ has i
