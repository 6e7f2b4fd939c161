-- What an end sends of an assembly: the data as they stand before the counts, and the counts one after another.
use Rattle.std.proofs.Common.{◌≡◌, ℕ, suc, Bool, true, false, cond, List, [], ◌∷◌, ◌++◌, length, get_or, ◌<◌, refl, sym, ap, ◌∙◌, arith, append_assoc}
use Rattle.std.proofs.Common.{append-nil, Option, Some, None, inl, inr, if◌then◌else◌, ◌==◌}
use Rattle.std.specs.Prelude.{map}
use Rattle.std.specs.Option.{option_and_then, option_map_or, option_map}
use Rattle.std.specs.List.{filter, cons_option}
use Rattle.std.specs.Ordering.{is_lt}
use Rattle.std.specs.declared.cmp.Ordering.TheVariants.{Less, Equal, Greater}
use Rattle.std.specs.Cmp.{tied_itself}
use Rattle.std.specs.FinMap as finite
use Rattle.std.specs.FinMap.Entries.{put, by_order}
use Rattle.cip_base.specs.Fields.{word}
use Rattle.cip_base.specs.Triads.{triad_cmp}
use Rattle.cip_base.specs.declared.triad.Triad.{Triad}
use Rattle.cip_base.proofs.Triads.{triads_total}
use Rattle.cip_hops.specs.declared.opening.HopUp.{HopUp}
use Rattle.cip_hops.specs.declared.hop.Hop.{Hop}
use Rattle.cip_hops.specs.declared.hop.Held.{Held}
use Rattle.cip_hops.specs.declared.hop.Held.TheVariants.{Opening as IsOpening, Open}
use Rattle.cip_hops.specs.declared.hop.Side.{Side}
use Rattle.cip_hops.specs.declared.hop.Side.TheVariants.{Up, Down}
use Rattle.cip_hops.specs.Hops.{Hops, IsWithin, triad_of, as_hop, hop_at, with_hop, change_in, counted, is_after, first_after}
use Rattle.cip_hops.proofs.Steps.{triads_apart}
use Rattle.cip_base.proofs.Views.{get-at}
use Rattle.cip_hops.proofs.Named.{is_open}
use Rattle.cip_target.specs.declared.config.AssemblyConfig.{AssemblyConfig}
use Rattle.cip_target.specs.Assemblies.{config_with}
use Rattle.cip_config.specs.declared.config.ModuleSettings.{ModuleSettings}
use Rattle.cip_event.specs.declared.event.Output.{Output}
use Rattle.cip_steps.specs.Code.Does.{Does}
use Rattle.cip_routing.specs.Effects.{Effect, Counts, Passes, recounted, ends_here, passed, datum_up, applied, outputs_of}
use Rattle.cip_routing.specs.Produced.{reads_from, next_count, made_effects, held_effects, each_effects}
use Rattle.cip_steps.specs.Code.Made.{made_of, takes_from, made_all, count_for, counted_by, counted_all, open_hops}
use Rattle.cip_routing.specs.State.{State}
use Rattle.cip_routing.specs.Table.{produce_effects}
use Rattle.cip_routing.proofs.Fits.{triad_or_not}
use Rattle.cip_base.proofs.Points.{put_here, put_apart}
use Rattle.cip_routing.proofs.Walks.{triad_at, open_in, opens_above, AreNamed, within_named, hop_walks, hop_walked, hop_fewer, opens_all}

-- ---- what is made, in turn

module _ (instance : ℕ) (held : List ℕ) (hop : Hop) (rest left : List Hop) (walk : left ≡ hop ∷ rest) (outs : List Output) where
  pub made_more : takes_from instance hop ≡ true → (outs ++ made_of held hop ∷ []) ++ made_all instance held rest ≡ outs ++ made_all instance held left
  made_more t =
      append_assoc outs (made_of held hop ∷ []) (made_all instance held rest)
      ∙ ap (λ b. outs ++ map (made_of held) (cond b (hop ∷ filter (takes_from instance) rest) (filter (takes_from instance) rest))) (sym t)
      ∙ ap (λ (z : List Hop). outs ++ made_all instance held z) (sym walk)

  pub made_less : takes_from instance hop ≡ false → outs ++ made_all instance held rest ≡ outs ++ made_all instance held left
  made_less t =
      ap (λ b. outs ++ map (made_of held) (cond b (hop ∷ filter (takes_from instance) rest) (filter (takes_from instance) rest))) (sym t)
      ∙ ap (λ (z : List Hop). outs ++ made_all instance held z) (sym walk)

pub made_done : (instance : ℕ) (held : List ℕ) (left : List Hop) (outs : List Output) → left ≡ [] → outs ≡ outs ++ made_all instance held left
made_done instance held left outs e = sym (append-nil outs) ∙ ap (λ (z : List Hop). outs ++ made_all instance held z) (sym e)

-- ---- a count changes nothing of the connections above

abbrev pub is_higher : Triad → Hop → Bool
is_higher k hop = is_after (Some k) (triad_at hop)

keep_head : (p : Hop → Bool) (o : Option Hop) (xs ys : List Hop) → filter p xs ≡ filter p ys → filter p (cons_option o xs) ≡ filter p (cons_option o ys)
keep_head p None xs ys e = e
keep_head p (Some hop) xs ys e = elim (p hop) as (λ b. cond b (hop ∷ filter p xs) (filter p xs) ≡ cond b (hop ∷ filter p ys) (filter p ys))
    [ true ↦ ap (λ (z : List Hop). hop ∷ z) e | false ↦ e ]

drop_head : (k : Triad) (x : Held) (xs : List Hop) → is_lt (triad_cmp k (triad_of x)) ≡ false
    → filter (is_higher k) (cons_option (as_hop x) xs) ≡ filter (is_higher k) xs
drop_head k (IsOpening o ids) xs e = refl
drop_head k (Open hop) xs e = ap (λ b. cond b (hop ∷ filter (is_higher k) xs) (filter (is_higher k) xs)) e

not_higher : (k : Triad) (hop : Hop) → hop.opening.triad ≡ k → is_lt (triad_cmp k hop.opening.triad) ≡ false
not_higher k hop name = ap (λ q. is_lt (triad_cmp k q)) name ∙ ap is_lt (tied_itself triads_total k)

put_under : (k : Triad) (hop : Hop) (es : List (Triad × Held)) → hop.opening.triad ≡ k → AreNamed es
    → filter (is_higher k) (open_in (put triad_cmp k (Open hop) es)) ≡ filter (is_higher k) (open_in es)
put_under k hop [] name names = drop_head k (Open hop) [] (not_higher k hop name)
put_under k hop (e ∷ es) name names =
    elim (triad_cmp k e.0) as (λ r. triad_cmp k e.0 ≡ r
    → filter (is_higher k) (open_in (by_order r ((k, Open hop) ∷ e ∷ es) ((e.0, Open hop) ∷ es) (e ∷ put triad_cmp k (Open hop) es)))
    ≡ filter (is_higher k) (open_in (e ∷ es))) [
      | Less ↦ λ t. drop_head k (Open hop) (open_in (e ∷ es)) (not_higher k hop name)
      | Equal ↦ λ t.
          drop_head k (Open hop) (open_in es) (not_higher k hop name)
          ∙ sym (drop_head k e.1 (open_in es) (ap (λ q. is_lt (triad_cmp k q)) names.0 ∙ ap is_lt t))
      | Greater ↦ λ t. keep_head (is_higher k) (as_hop e.1) (open_in (put triad_cmp k (Open hop) es)) (open_in es) (put_under k hop es name names.1)
    ] refl

held_open : (g : Option Held) (hop : Hop) → option_and_then as_hop g ≡ Some hop → g ≡ Some (Open hop)
held_open None hop e = absurd (cc)
held_open (Some x) hop e = ap (λ (y : Held). Some y) (is_open x hop e)

counted_triad : (side : Side) (count : ℕ) (hop : Hop) → (counted side count hop).opening ≡ hop.opening
counted_triad Up count hop = refl
counted_triad Down count hop = refl

module _ (h : Hops) (k : Triad) (side : Side) (count : ℕ) where
  above_changed : IsWithin h → (hop : Hop) → hop_at h k ≡ Some hop → opens_above (Some k) (with_hop h k (counted side count hop)) ≡ opens_above (Some k) h
  above_changed w hop at =
      let name : hop.opening.triad ≡ k = w.triads k (Open hop) (held_open (finite.get h.held k) hop at) in
      ap (λ (es : List (Triad × Held)). filter (is_higher k) (open_in es)) (finite.entries-insert triads_total h.held k (Open (counted side count hop)))
      ∙ put_under k (counted side count hop) (finite.entries h.held) (ap (λ o. o.triad) (counted_triad side count hop) ∙ name) (within_named h w)

  above_given : IsWithin h → (o : Option Hop) → hop_at h k ≡ o
      → opens_above (Some k) (if option_map_or ends_here o false then change_in h k (counted side count) o else h) ≡ opens_above (Some k) h
  above_given w None at = refl
  above_given w (Some hop) at =
      elim (ends_here hop) as (λ b. opens_above (Some k) (if b then with_hop h k (counted side count hop) else h) ≡ opens_above (Some k) h)
      [ true ↦ above_changed w hop at | false ↦ refl ]

  above_recounted : IsWithin h → opens_above (Some k) (recounted h k side count) ≡ opens_above (Some k) h
  above_recounted w = above_given w (hop_at h k) refl

above_counted : (h : Hops) (k : Triad) (o : Option ℕ) → IsWithin h → opens_above (Some k) (counted_by h k o) ≡ opens_above (Some k) h
above_counted h k None w = refl
above_counted h k (Some count) w = above_recounted h k Down count w

-- the state at the end of the counts, seen from within
abbrev pub counted_from : ℕ → Option Triad → State → State
counted_from instance after s = record s { hops = counted_all instance (opens_above after s.hops) s.hops }

-- the next connection counts
pub counts_next : (instance : ℕ) (after : Option Triad) (s : State) (hop : Hop) → IsWithin s.hops → Some hop ≡ first_after after s.hops
    → counted_from instance (Some hop.opening.triad) (record s { hops = counted_by s.hops hop.opening.triad (count_for instance hop) })
    ≡ counted_from instance after s
counts_next instance after s hop w e =
    ap (λ (z : List Hop). record s { hops = counted_all instance z (counted_by s.hops hop.opening.triad (count_for instance hop)) })
    (above_counted s.hops hop.opening.triad (count_for instance hop) w)
    ∙ ap (λ (z : List Hop). record s { hops = counted_all instance z s.hops }) (sym (hop_walks s.hops w after hop e))

-- before the first, all counts are left; after the last, none
pub counts_all : (instance : ℕ) (s : State) → counted_from instance None s ≡ record s { hops = counted_all instance (open_hops s.hops) s.hops }
counts_all instance s = ap (λ (z : List Hop). record s { hops = counted_all instance z s.hops }) (opens_all s.hops)

pub counts_done : (instance : ℕ) (after : Option Triad) (s : State) → None ≡ first_after after s.hops → s ≡ counted_from instance after s
counts_done instance after s e = ap (λ (z : List Hop). record s { hops = counted_all instance z s.hops }) (sym (hop_walked s.hops after e))

-- and fewer are left
pub counts_fewer : (h new : Hops) (after : Option Triad) (hop : Hop) (o : Option ℕ) → IsWithin h → Some hop ≡ first_after after h
    → new ≡ counted_by h hop.opening.triad o
    → length (opens_above (Some hop.opening.triad) new) < length (opens_above after h)
counts_fewer h new after hop o w e is =
    let same = ap (λ (z : Hops). length (opens_above (Some hop.opening.triad) z)) is ∙ ap length (above_counted h hop.opening.triad o w) in
    let less = hop_fewer h w after hop e in
    omega (arith, same, less)

-- ---- nor does it change an up side

abbrev pub up_of : Option Hop → Option HopUp
up_of o = option_map (λ (hop : Hop). hop.opening.up) o

abbrev pub up_at : Hops → Triad → Option HopUp
up_at h triad = up_of (hop_at h triad)

module _ (h : Hops) (k : Triad) (side : Side) (count : ℕ) (q : Triad) where
  up_changed : (hop : Hop) → hop_at h k ≡ Some hop → up_at (with_hop h k (counted side count hop)) q ≡ up_at h q
  up_changed hop at = elim (triad_or_not q k) as (λ _. up_at (with_hop h k (counted side count hop)) q ≡ up_at h q) [
    | inl one ↦
        ap (λ t. up_at (with_hop h k (counted side count hop)) t) one
        ∙ ap (λ g. up_of (option_and_then as_hop g)) (put_here triads_total triads_apart h.held k (Open (counted side count hop)))
        ∙ ap (λ o. Some o.up) (counted_triad side count hop)
        ∙ sym (ap up_of at) ∙ ap (up_at h) (sym one)
    | inr apart ↦ ap (λ g. up_of (option_and_then as_hop g)) (put_apart triads_total triads_apart h.held k (Open (counted side count hop)) q apart)
  ]

  up_given : (o : Option Hop) → hop_at h k ≡ o → up_at (if option_map_or ends_here o false then change_in h k (counted side count) o else h) q ≡ up_at h q
  up_given None at = refl
  up_given (Some hop) at =
      elim (ends_here hop) as (λ b. up_at (if b then with_hop h k (counted side count hop) else h) q ≡ up_at h q) [ true ↦ up_changed hop at | false ↦ refl ]

  up_recounted : up_at (recounted h k side count) q ≡ up_at h q
  up_recounted = up_given (hop_at h k) refl

up_counted : (h : Hops) (k : Triad) (o : Option ℕ) (q : Triad) → up_at (counted_by h k o) q ≡ up_at h q
up_counted h k None q = refl
up_counted h k (Some count) q = up_recounted h k Down count q

-- ---- the effects, connection by connection

module _ (config : ModuleSettings) (instance : ℕ) (held : List ℕ) where
  abbrev after_one : State → Hop → State
  after_one s hop = record s { hops = counted_by s.hops hop.opening.triad (count_for instance hop) }

  applied_one : (s : State) (hop : Hop) (rest : List Effect)
      → applied config s (held_effects instance held (Open hop) ++ rest) ≡ applied config (after_one s hop) rest
  applied_one s hop rest =
      elim (reads_from instance hop.opening.down) as (λ b. applied config s ((if b then made_effects held hop else []) ++ rest)
      ≡ applied config
      (record s {
        hops = counted_by s.hops hop.opening.triad (if b then (if hop.opening.class == 1 then Some (next_count hop.produced) else None) else None);
      }) rest) [
        | false ↦ refl
        | true ↦
            elim (hop.opening.class == 1) as (λ c. applied config s ((if c
            then Counts hop.opening.triad Down (next_count hop.produced) ∷ Passes hop.opening.triad Up (word (next_count hop.produced) ++ held) ∷ []
            else Passes hop.opening.triad Up held ∷ []) ++ rest)
            ≡ applied config (record s { hops = counted_by s.hops hop.opening.triad (if c then Some (next_count hop.produced) else None) }) rest)
            [ true ↦ refl | false ↦ refl ]
      ]

  applied_put : (x : Held) (es : List (Triad × Held)) → ((s : State)
      → applied config s (each_effects instance held es) ≡ record s { hops = counted_all instance (open_in es) s.hops })
      → (s : State) → applied config s (held_effects instance held x ++ each_effects instance held es)
      ≡ record s { hops = counted_all instance (cons_option (as_hop x) (open_in es)) s.hops }
  applied_put (IsOpening o ids) es others s = others s
  applied_put (Open hop) es others s = applied_one s hop (each_effects instance held es) ∙ others (after_one s hop)

  applied_all : (es : List (Triad × Held)) (s : State) → applied config s (each_effects instance held es)
      ≡ record s { hops = counted_all instance (open_in es) s.hops }
  applied_all [] s = refl
  applied_all (e ∷ es) s = applied_put e.1 es (λ z. applied_all es z) s

  passed_up : (o : Option Hop) (up : HopUp) (bytes : List ℕ) → up_of o ≡ Some up → passed Up o bytes ≡ datum_up up bytes ∷ []
  passed_up None up bytes e = absurd (cc)
  passed_up (Some hop) up bytes e = let same : hop.opening.up ≡ up = cc in ap (λ z. datum_up z bytes ∷ []) same

  -- the datum of one goes out, and what the others make
  goes_out : (s : State) (hop : Hop) (bytes : List ℕ) (rest : List Effect) (outs : List Output) → up_at s.hops hop.opening.triad ≡ Some hop.opening.up
      → outputs_of config s rest ≡ outs
      → outputs_of config s (Passes hop.opening.triad Up bytes ∷ rest) ≡ datum_up hop.opening.up bytes ∷ outs
  goes_out s hop bytes rest outs up e =
      ap (λ (z : List Output). z ++ outputs_of config s rest) (passed_up (hop_at s.hops hop.opening.triad) hop.opening.up bytes up)
      ∙ ap (λ (z : List Output). datum_up hop.opening.up bytes ∷ z) e

  made_one : (s : State) (hop : Hop) (rest : List Effect) (hops : List Hop) → up_at s.hops hop.opening.triad ≡ Some hop.opening.up
      → outputs_of config (after_one s hop) rest ≡ made_all instance held hops
      → outputs_of config s (held_effects instance held (Open hop) ++ rest) ≡ made_all instance held (hop ∷ hops)
  made_one s hop rest hops up e =
      elim (reads_from instance hop.opening.down) as (λ b.
      outputs_of config
      (record s {
        hops = counted_by s.hops hop.opening.triad (if b then (if hop.opening.class == 1 then Some (next_count hop.produced) else None) else None);
      }) rest ≡ made_all instance held hops
      → outputs_of config s ((if b then made_effects held hop else []) ++ rest)
      ≡ map (made_of held) (cond b (hop ∷ filter (takes_from instance) hops) (filter (takes_from instance) hops))) [
        | false ↦ λ f. f
        | true ↦
            elim (hop.opening.class == 1) as (λ c.
            outputs_of config (record s { hops = counted_by s.hops hop.opening.triad (if c then Some (next_count hop.produced) else None) }) rest
            ≡ made_all instance held hops
            → outputs_of config s ((if c
            then Counts hop.opening.triad Down (next_count hop.produced) ∷ Passes hop.opening.triad Up (word (next_count hop.produced) ++ held) ∷ []
            else Passes hop.opening.triad Up held ∷ []) ++ rest)
            ≡ datum_up hop.opening.up (if c then word (next_count hop.produced) ++ held else held) ∷ made_all instance held hops) [
              | true ↦ λ f. goes_out (record s { hops = recounted s.hops hop.opening.triad Down (next_count hop.produced) }) hop
                  (word (next_count hop.produced) ++ held) rest (made_all instance held hops)
                  (up_recounted s.hops hop.opening.triad Down (next_count hop.produced) hop.opening.triad ∙ up) f
              | false ↦ λ f. goes_out s hop held rest (made_all instance held hops) up f
            ]
      ] e

-- the up side of each
abbrev pub AreUp : (Triad → Option HopUp) → List Hop → Type 0
AreUp ups [] = Unit {0}
AreUp ups (hop ∷ hops) = (ups hop.opening.triad ≡ Some hop.opening.up) × AreUp ups hops

module _ (config : ModuleSettings) (instance : ℕ) (held : List ℕ) (ups : Triad → Option HopUp) where
  abbrev Makes : List (Triad × Held) → Type 0
  Makes es = (s : State) → ((q : Triad) → up_at s.hops q ≡ ups q) → outputs_of config s (each_effects instance held es) ≡ made_all instance held (open_in es)

  made_put : (x : Held) (es : List (Triad × Held)) → AreUp ups (cons_option (as_hop x) (open_in es)) → (AreUp ups (open_in es) → Makes es)
      → (s : State) → ((q : Triad) → up_at s.hops q ≡ ups q)
      → outputs_of config s (held_effects instance held x ++ each_effects instance held es) ≡ made_all instance held (cons_option (as_hop x) (open_in es))
  made_put (IsOpening o ids) es are others s alike = others are s alike
  made_put (Open hop) es are others s alike =
      made_one config instance held s hop (each_effects instance held es) (open_in es) (alike hop.opening.triad ∙ are.0)
      (others are.1 (after_one config instance held s hop) (λ q. up_counted s.hops hop.opening.triad (count_for instance hop) q ∙ alike q))

  made_in : (es : List (Triad × Held)) → AreUp ups (open_in es) → Makes es
  made_in [] are s alike = refl
  made_in (e ∷ es) are s alike = made_put e.1 es are (λ those. made_in es those) s alike

module _ (h : Hops) where
  put_up : (q : Triad) (x : Held) (hops : List Hop) → finite.get h.held q ≡ Some x → triad_of x ≡ q → AreUp (up_at h) hops
      → AreUp (up_at h) (cons_option (as_hop x) hops)
  put_up q (IsOpening o ids) hops at name are = are
  put_up q (Open hop) hops at name are = (ap (up_at h) name ∙ ap (λ g. up_of (option_and_then as_hop g)) at, are)

  up_all : (es : List (Triad × Held)) → ((i : ℕ) (d : Triad × Held) → i < length es → finite.get h.held (get_or es i d).0 ≡ Some (get_or es i d).1)
      → AreNamed es → AreUp (up_at h) (open_in es)
  up_all [] at names = tt
  up_all (e ∷ es) at names = put_up e.0 e.1 (open_in es) (at 0 e (omega arith)) names.0 (up_all es (λ i d lt. at (suc i) d (omega arith)) names.1)

pub named_instance : (i : ℕ) (g : Option (List ℕ)) (a : AssemblyConfig) → Some a ≡ option_map (config_with i) g → a.instance ≡ i
named_instance i None a e = absurd (cc)
named_instance i (Some held) a e = let same : a ≡ config_with i held = cc in ap (λ (x : AssemblyConfig). x.instance) same

-- what a Produce of an assembly that exists does
pub makes : (config : ModuleSettings) (s new : State) (instance : ℕ) (held : List ℕ) (g : Option (List ℕ)) (outs : List Output) → IsWithin s.hops
    → g ≡ Some held
    → new ≡ record s { hops = counted_all instance (open_hops s.hops) s.hops } → outs ≡ made_all instance held (open_hops s.hops)
    → Does config s (produce_effects s instance g) new outs
makes config s new instance held g outs w found after out =
    let es = finite.entries s.hops.held in record {
      state = ap (λ o. applied config s (produce_effects s instance o)) found ∙ applied_all config instance held es s ∙ sym after;
      out = ap (λ o. outputs_of config s (produce_effects s instance o)) found
          ∙ made_in config instance held (up_at s.hops) es (up_all s.hops es (λ i d lt. get-at triad_cmp triads_total triads_apart s.hops.held i d lt)
          (within_named s.hops w)) s (λ q. refl)
          ∙ sym out;
    }
