-- That the tables of a module fit one another after bytes of assemblies change: each keeps its size.
use Rattle.std.proofs.Common.{◌≡◌, ℕ, ◌≤◌, Bool, true, false, cond, refl, sym, ap, subst, ◌∙◌, Option, Some, None, List, length, take, inl, inr}
use Rattle.std.specs.Prelude.{IsSomeAnd}
use Rattle.std.specs.Option.{option_map}
use Rattle.std.specs.Cmp.{nat_cmp_total}
use Rattle.std.specs.FinMap as map
use Rattle.std.proofs.lemmas.List.{length-take-le}
use Rattle.cip_message.specs.Request.{Request}
use Rattle.cip_pending.specs.Pendings.{Pendings}
use Rattle.cip_hops.specs.Hops.{Hops}
use Rattle.cip_target.specs.declared.config.AssemblyConfig.{AssemblyConfig}
use Rattle.cip_target.specs.Assemblies.{AssemblyMap, size_in, config_in, config_with, written_over}
use Rattle.cip_target.specs.Ends.{Ends, ends_after, consumed}
use Rattle.cip_target.specs.Rows.{TargetRow, target_row, assemblies_after, Refused, Read, Written, Reset}
use Rattle.cip_target.proofs.Writes.{IsThere, target_there}
use Rattle.cip_config.specs.declared.config.ModuleSettings.{ModuleSettings}
use Rattle.cip_routing.specs.Code.Fit.{Fit}
use Rattle.cip_base.proofs.Points.{one_or_apart, put_here, put_apart}
use Rattle.cip_routing.proofs.Fits.{numbers_apart}

pub insert_sizes : (m : AssemblyMap) (i : ℕ) (held d : List ℕ) → map.get m i ≡ Some held → length d ≡ length held → (j : ℕ)
    → size_in (map.insert m i d) j ≡ size_in m j
insert_sizes m i held d at same j = elim (one_or_apart nat_cmp_total numbers_apart j i) as (λ _. size_in (map.insert m i d) j ≡ size_in m j) [
  | inl one ↦
      ap (size_in (map.insert m i d)) one ∙ ap (option_map length) (put_here nat_cmp_total numbers_apart m i d) ∙ ap (λ n. Some n) same
      ∙ ap (option_map length) (sym at)
      ∙ ap (size_in m) (sym one)
  | inr apart ↦ ap (option_map length) (put_apart nat_cmp_total numbers_apart m i d j apart)
]

pub written_sizes : (m : AssemblyMap) (i : ℕ) (b : List ℕ) → IsSomeAnd (map.get m i) (λ held. length held ≤ length b) → (j : ℕ)
    → size_in (written_over m i b (map.get m i)) j ≡ size_in m j
written_sizes m i b long j =
    elim (map.get m i) as (λ (o : Option (List ℕ)). map.get m i ≡ o → IsSomeAnd o (λ held. length held ≤ length b)
    → size_in (written_over m i b o) j ≡ size_in m j) [
      | None ↦ λ at h. refl
      | Some held ↦ λ at h. insert_sizes m i held (take (length held) b) at (length-take-le (length held) b h) j
    ] refl long

-- a request to the target changes no size
row_sizes : (m : AssemblyMap) (row : TargetRow) → IsThere m row → (j : ℕ) → size_in (assemblies_after m row) j ≡ size_in m j
row_sizes m (Refused refusal) there j = refl
row_sizes m (Read found) there j = refl
row_sizes m Reset there j = refl
row_sizes m (Written i d) there j =
    elim (map.get m i) as (λ (o : Option (List ℕ)). map.get m i ≡ o → IsSomeAnd o (λ held. length d ≡ length held)
    → size_in (map.insert m i d) j ≡ size_in m j) [
      | None ↦ λ at h. absurd h
      | Some held ↦ λ at h. insert_sizes m i held d at h j
    ] refl there

pub fit_sizes : (config : ModuleSettings) (p : Pendings) (h : Hops) (t after : Ends) (ops : List ℕ)
    → Fit config p h t ops → after.objects.identity ≡ t.objects.identity → after.owners ≡ t.owners
    → ((j : ℕ) → size_in after.objects.assemblies j ≡ size_in t.objects.assemblies j) → Fit config p h after ops
fit_sizes config p h t after ops f same owners sizes = record {
  identity = same ∙ f.identity;
  pending_room = f.pending_room;
  hop_room = f.hop_room;
  paired = f.paired;
  spent = f.spent;
  links = f.links;
  owned = record {
    owner = λ q i size e sized. f.owned.owner q i size (ap (λ o. map.get o i) (sym owners) ∙ e) (sym (sizes i) ∙ sized);
    writer = λ q i size w sized some. ap (λ o. map.get o i) owners ∙ f.owned.writer q i size w (sym (sizes i) ∙ sized) some;
  };
}

pub fit_answers : (config : ModuleSettings) (p : Pendings) (h : Hops) (t after : Ends) (ops : List ℕ) (r : Request)
    → Fit config p h t ops → after ≡ ends_after t r → Fit config p h after ops
fit_answers config p h t after ops r f e =
    fit_sizes config p h t after ops f (ap (λ (x : Ends). x.objects.identity) e) (ap (λ (x : Ends). x.owners) e)
    (λ j. ap (λ (x : Ends). size_in x.objects.assemblies j) e
    ∙ row_sizes t.objects.assemblies (target_row t.objects.identity t.objects.assemblies r) (target_there t.objects.identity t.objects.assemblies r) j)

-- an assembly is found under its own instance, with its size
found_size : (m : AssemblyMap) (i : ℕ) (a : AssemblyConfig) (o : Option (List ℕ)) → option_map (config_with i) o ≡ Some a
    → (i ≡ a.instance) × (IsSomeAnd o (λ held. a.size ≡ length held))
found_size m i a None e = absurd (cc)
found_size m i a (Some held) e =
    let same : config_with i held ≡ a = cc in
    (ap (λ (x : AssemblyConfig). x.instance) same, sym (ap (λ (x : AssemblyConfig). x.size) same))

same_size : (m : AssemblyMap) (i : ℕ) (d : List ℕ) (size : ℕ) → IsSomeAnd (map.get m i) (λ held. size ≡ length held) → size ≡ length d → (j : ℕ)
    → size_in (map.insert m i d) j ≡ size_in m j
same_size m i d size has e j =
    elim (map.get m i) as (λ (o : Option (List ℕ)). map.get m i ≡ o → IsSomeAnd o (λ held. size ≡ length held) → size_in (map.insert m i d) j ≡ size_in m j) [
      | None ↦ λ at h. absurd h
      | Some held ↦ λ at h. insert_sizes m i held d at (sym e ∙ h) j
    ] refl has

pub fit_writes : (config : ModuleSettings) (p : Pendings) (h : Hops) (t after : Ends) (ops : List ℕ) (i : ℕ) (d : List ℕ) (a : AssemblyConfig)
    → Fit config p h t ops → Some a ≡ config_in t.objects.assemblies i → a.size ≡ length d → after ≡ consumed t a.instance d → Fit config p h after ops
fit_writes config p h t after ops i d a f found size e =
    let m = t.objects.assemblies in
    let is = found_size m i a (map.get m i) (sym found) in
    let at : after ≡ consumed t i d = e ∙ ap (λ k. consumed t k d) (sym is.0) in
    fit_sizes config p h t after ops f (ap (λ (x : Ends). x.objects.identity) at) (ap (λ (x : Ends). x.owners) at)
    (λ j. ap (λ (x : Ends). size_in x.objects.assemblies j) at ∙ same_size m i d a.size is.1 size j)

-- where there was no memory for the answer, nothing changed
pub fit_answered : (config : ModuleSettings) (p : Pendings) (h : Hops) (t after : Ends) (ops : List ℕ) (r : Request) (b : Bool)
    → Fit config p h t ops → after ≡ cond b (ends_after t r) t → Fit config p h after ops
fit_answered config p h t after ops r true f e = fit_answers config p h t after ops r f e
fit_answered config p h t after ops r false f e = subst (λ (x : Ends). Fit config p h x ops) (sym e) f
