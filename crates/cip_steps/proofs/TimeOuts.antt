-- What a tick does to the pendings and to the connections, one that is due after another.
use Rattle.std.proofs.Common.{◌≡◌, ℕ, zero, suc, ◌+◌, ◌<◌, Bool, true, false, cond, List, [], ◌∷◌, ◌++◌, length, get_or, refl, sym, ap, subst, ◌∙◌, arith}
use Rattle.std.proofs.Common.{append_assoc, Result, Option, Some, None, is_some}
use Rattle.std.specs.Prelude.{map}
use Rattle.std.specs.Option.{option_to_list, option_and_then}
use Rattle.std.specs.List.{find, filter, filter_map, remove}
use Rattle.std.specs.Ordering.{nat_cmp, is_eq, eq_by_cmp}
use Rattle.std.specs.declared.cmp.Ordering.{Ordering}
use Rattle.std.specs.Cmp.{IsTotalOrder, nat_cmp_total, tied_itself}
use Rattle.std.specs.FinMap as finite
use Rattle.std.specs.FinMap.{FinMap, IsAntisymmetric, nat_cmp-IsAntisymmetric}
use Rattle.cip_base.specs.declared.triad.Triad.{Triad}
use Rattle.cip_base.proofs.Triads.{triads_total}
use Rattle.cip_base.proofs.Sorted.{from_sorted-remove, sorted_remove}
use Rattle.cip_pending.specs.declared.entry.Kind.{Kind}
use Rattle.cip_pending.specs.Kinds.{opened_triad}
use Rattle.cip_pending.specs.declared.entry.Entry.{Entry}
use Rattle.cip_pending.specs.Pendings.{Pendings, is_due, due, first_due, without}
use Rattle.cip_base.proofs.Going.{first_goes}
use Rattle.cip_pending.proofs.Ticks.{due_goes, none_due}
use Rattle.cip_hops.specs.declared.hop.Hop.{Hop}
use Rattle.cip_hops.specs.declared.hop.Held.{Held}
use Rattle.cip_hops.specs.declared.hop.Held.TheVariants.{Opening as IsOpening, Open}
use Rattle.cip_hops.specs.Hops.{Hops, as_hop, as_opening, hop_at, is_timed_out, is_hop_due, IsWithin}
use Rattle.cip_hops.specs.Hops as hops
use Rattle.cip_hops.proofs.Steps.{triads_apart}
use Rattle.cip_base.proofs.Views.{found-gives, find-only, tied_name}
use Rattle.cip_config.specs.declared.config.ModuleSettings.{ModuleSettings}
use Rattle.cip_event.specs.declared.event.Output.{Output}
use Rattle.cip_routing.specs.Effects.{Effect, PendingTimesOut, HopTimesOut, apply, applied, output_of, outputs_of, timed_out_reply, abandoned_if, given_up}
use Rattle.cip_routing.specs.Effects.{given_up_of}
use Rattle.cip_steps.specs.Code.Does.{Does}
use Rattle.cip_routing.specs.Table.{pending_times_out, pending_time_outs, hop_times_out, hop_time_outs, tick_effects}
use Rattle.cip_steps.specs.Code.Ticks.{TickGives, shown, pendings_timed_out, hop_timed_out, hops_timed_out, pending_time_out, hop_time_out}
use Rattle.cip_steps.specs.declared.tick.steps.TickFault.{TickFault}
use Rattle.cip_routing.specs.State.{State}
use Rattle.cip_routing.proofs.Found.{found_held}
use Rattle.cip_routing.proofs.Walks.{none_left, opens, due_open, first_open}

-- ---- effects, and then others

pub applied_more : (config : ModuleSettings) (s : State) (es fs : List Effect) → applied config s (es ++ fs) ≡ applied config (applied config s es) fs
applied_more config s [] fs = refl
applied_more config s (e ∷ es) fs = applied_more config (apply config s e) es fs

outputs_more : (config : ModuleSettings) (s : State) (es fs : List Effect)
    → outputs_of config s (es ++ fs) ≡ outputs_of config s es ++ outputs_of config (applied config s es) fs
outputs_more config s [] fs = refl
outputs_more config s (e ∷ es) fs =
    ap (λ (z : List Output). output_of config s e ++ z) (outputs_more config (apply config s e) es fs)
    ∙ sym (append_assoc (output_of config s e) (outputs_of config (apply config s e) es) (outputs_of config (applied config (apply config s e) es) fs))

-- one goes, and fewer are left
pub fewer_left : {X : Type 0} (o : Option X) (xs ys : List X) → is_some o ≡ true → xs ≡ option_to_list o ++ ys → length ys < length xs
fewer_left None xs ys some e = absurd (cc)
fewer_left (Some x) xs ys some e = let more = ap length e in omega (arith, more)

none_is : {X : Type 0} (o : Option X) → is_some o ≡ false → o ≡ None
none_is None e = refl
none_is (Some x) e = absurd (cc)

-- ---- the pendings

-- the first due entry stands under its number
pub stands : (t : ℕ) (p : Pendings) (x : ℕ × Entry) → first_due t p ≡ Some x → finite.get p.entries x.0 ≡ Some x.1
stands t p x e = (found-gives nat_cmp nat_cmp_total nat_cmp-IsAntisymmetric p.entries (is_due t) x e).0

-- its number alone tells what goes
pub pending_time_out_is : (config : ModuleSettings) (t : ℕ) (s : State) (p : Pendings) (h : Hops) (x : ℕ × Entry) → Some x ≡ first_due t s.pendings
    → p ≡ without s.pendings x.0 → h ≡ given_up_of x.1.kind s.hops
    → record s { pendings = p; hops = h } ≡ applied config s (pending_time_out (first_due t s.pendings))
pending_time_out_is config t s p h x e gone given =
    ap (λ (q : Pendings). record s { pendings = q; hops = h }) gone
    ∙ ap (λ (q : Hops). record s { pendings = without s.pendings x.0; hops = q })
    (given ∙ ap (λ (o : Option Entry). given_up o s.hops) (sym (stands t s.pendings x (sym e))))
    ∙ ap (λ (o : Option (ℕ × Entry)). applied config s (pending_time_out o)) e

-- what the others do stays the same
pub pending_time_out_goes : (config : ModuleSettings) (t : ℕ) (o : Option (ℕ × Entry)) (s new : State)
    → due t s.pendings ≡ option_to_list o ++ due t new.pendings → new ≡ applied config s (pending_time_out o)
    → applied config s (pending_time_outs t s.pendings) ≡ applied config new (pending_time_outs t new.pendings)
pending_time_out_goes config t None s new d e = ap (λ (ds : List (ℕ × Entry)). applied config s (map pending_times_out ds)) d
    ∙ ap (λ (z : State). applied config z (pending_time_outs t new.pendings)) (sym e)
pending_time_out_goes config t (Some x) s new d e = ap (λ (ds : List (ℕ × Entry)). applied config s (map pending_times_out ds)) d
    ∙ ap (λ (z : State). applied config z (pending_time_outs t new.pendings)) (sym e)

-- where none is due, nothing pending_times_out
pub pending_time_outs_end : (config : ModuleSettings) (t : ℕ) (s new : State) → is_some (first_due t s.pendings) ≡ false
    → new ≡ applied config s (pending_time_out (first_due t s.pendings)) → applied config s (pending_time_outs t s.pendings) ≡ new
pending_time_outs_end config t s new none e =
    let is = none_is (first_due t s.pendings) none in
    ap (λ (ds : List (ℕ × Entry)). applied config s (map pending_times_out ds)) (none_due t (finite.entries s.pendings.entries) is).0
    ∙ sym (e ∙ ap (λ (o : Option (ℕ × Entry)). applied config s (pending_time_out o)) is)

-- the first of a filtered list is what is found
first_is : {X : Type 0} (p : X → Bool) (es : List X) (x : X) (xs : List X) → filter p es ≡ x ∷ xs → find p es ≡ Some x
first_is p [] x xs e = absurd (cc)
first_is p (y ∷ es) x xs e =
    elim (p y) as (λ b. cond b (y ∷ filter p es) (filter p es) ≡ x ∷ xs → cond b (Some y) (find p es) ≡ Some x) [
      | true ↦ λ s. (let same : y ≡ x = cc in ap (λ z. Some z) same)
      | false ↦ λ s. first_is p es x xs s
    ] e

tail_is : {X : Type 0} (x y : X) (xs ys : List X) → x ∷ xs ≡ y ∷ ys → xs ≡ ys
tail_is x y xs ys e = cc

-- the outputs of all that expire
all_pendings_timed_out : (config : ModuleSettings) (t : ℕ) (s : State) (ds : List (ℕ × Entry)) → due t s.pendings ≡ ds
    → outputs_of config s (map pending_times_out ds) ≡ map shown ds
all_pendings_timed_out config t s [] e = refl
all_pendings_timed_out config t s (x ∷ ds) e =
    let found = first_is (is_due t) (finite.entries s.pendings.entries) x ds e in
    let left : due t (without s.pendings x.0) ≡ ds = tail_is x x _ _ (sym (due_goes t s.pendings x found).chosen ∙ e) in
    ap (λ (o : Option Entry). timed_out_reply o ++ outputs_of config (apply config s (PendingTimesOut x.0)) (map pending_times_out ds))
    (stands t s.pendings x found)
    ∙ ap (λ (z : List Output). shown x ∷ z) (all_pendings_timed_out config t (apply config s (PendingTimesOut x.0)) ds left)

-- ---- what was opening is given up, which is not due

left_out : {X : Type 0} (p : X → Bool) (es : List X) (i : ℕ) (d : X) → i < length es → p (get_or es i d) ≡ false → filter p (remove es i) ≡ filter p es
left_out p [] i d lt fails = absurd (omega arith)
left_out p (e ∷ es) zero d lt fails = sym (ap (λ b. cond b (e ∷ filter p es) (filter p es)) fails)
left_out p (e ∷ es) (suc i) d lt fails =
    elim (p e) as (λ b. cond b (e ∷ filter p (remove es i)) (filter p (remove es i)) ≡ cond b (e ∷ filter p es) (filter p es)) [
      | true ↦ ap (λ z. e ∷ z) (left_out p es i d (omega arith) fails)
      | false ↦ left_out p es i d (omega arith) fails
    ]

module _ {K X : Type 0} {R : K → K → Ordering} (o : IsTotalOrder R) (same : IsAntisymmetric R) where
  entries_gone : (m : FinMap R X) (i : ℕ) (d : K × X) → i < length (finite.entries m)
      → finite.entries (finite.remove m (get_or (finite.entries m) i d).0) ≡ remove (finite.entries m) i
  entries_gone m i d lt =
      let es = finite.entries m in
      let sorted = finite.entries_sorted m in
      let back : finite.from_sorted {R = R} es ≡ m = finite.same_entries_map _ _ (finite.entries-from_sorted R es sorted) in
      ap finite.entries (ap (λ n. finite.remove n (get_or es i d).0) (sym back) ∙ sym (from_sorted-remove R o same es i d sorted lt))
      ∙ finite.entries-from_sorted R _ (sorted_remove R o es i d sorted lt)

  -- an entry goes that does not pass
  gone_unpassed : (m : FinMap R X) (p : K × X → Bool) (q : K) (x : X) → finite.get m q ≡ Some x → p (q, x) ≡ false
      → filter p (finite.entries (finite.remove m q)) ≡ filter p (finite.entries m)
  gone_unpassed m p q x at fails =
      let g = first_goes (λ (e : K × X). eq_by_cmp R q e.0) (finite.entries m) (q, x)
      (find-only R o same m (λ (e : K × X). eq_by_cmp R q e.0) q x at (ap is_eq (tied_itself o q)) (λ r y _ t. sym (tied_name same q r t))) in
      ap (λ (e : K × X). filter p (finite.entries (finite.remove m e.0))) (sym g.stands)
      ∙ ap (filter p) (entries_gone m g.place (q, x) g.within)
      ∙ left_out p (finite.entries m) g.place (q, x) g.within (ap p g.stands ∙ fails)

due_held : (t : ℕ) (h : Hops) (triad : Triad) (x : Held) → finite.get h.held triad ≡ Some x
    → hops.due t (cond (is_some (as_opening x)) (hops.without h triad) h) ≡ hops.due t h
due_held t h triad (IsOpening o ids) at =
    ap (filter_map (λ (e : Triad × Held). as_hop e.1)) (gone_unpassed triads_total triads_apart h.held (λ (e : Triad × Held). is_hop_due t e.1) triad
    (IsOpening o ids) at refl)
due_held t h triad (Open hop) at = refl

due_abandoned : (t : ℕ) (opened : Option Triad) (h : Hops) → hops.due t (abandoned_if opened h) ≡ hops.due t h
due_abandoned t None h = refl
due_abandoned t (Some triad) h =
    elim (finite.get h.held triad) as (λ x. finite.get h.held triad ≡ x
    → hops.due t (cond (is_some (option_and_then as_opening x)) (hops.without h triad) h) ≡ hops.due t h) [
      | None ↦ λ at. refl
      | Some x ↦ λ at. due_held t h triad x at
    ] refl

pub due_given_up : (t : ℕ) (kind : Kind) (h : Hops) → hops.due t (given_up_of kind h) ≡ hops.due t h
due_given_up t kind h = due_abandoned t (opened_triad kind) h

-- ---- the connections

pub hop_time_out_is : (config : ModuleSettings) (t : ℕ) (s : State) (h : Hops) (hop : Hop) → IsWithin s.hops → Some hop ≡ hops.first_due t s.hops
    → h ≡ hops.without s.hops hop.opening.triad
    → record s { hops = h } ≡ applied config s (hop_time_out (hops.first_due t s.hops))
hop_time_out_is config t s h hop w e gone =
    ap (λ (q : Hops). record s { hops = q }) (gone
    ∙ sym (ap (λ (o : Option Hop). cond (is_some o) (hops.without s.hops hop.opening.triad) s.hops) (found_held (is_timed_out t) s.hops hop (sym e) w)))
    ∙ ap (λ (o : Option Hop). applied config s (hop_time_out o)) e

pub hop_time_out_goes : (config : ModuleSettings) (t : ℕ) (o : Option Hop) (s new : State) → hops.due t s.hops ≡ option_to_list o ++ hops.due t new.hops
    → new ≡ applied config s (hop_time_out o)
    → applied config s (hop_time_outs t s.hops) ≡ applied config new (hop_time_outs t new.hops)
hop_time_out_goes config t None s new d e = ap (λ (hs : List Hop). applied config s (map hop_times_out hs)) d
    ∙ ap (λ (z : State). applied config z (hop_time_outs t new.hops)) (sym e)
hop_time_out_goes config t (Some hop) s new d e = ap (λ (hs : List Hop). applied config s (map hop_times_out hs)) d
    ∙ ap (λ (z : State). applied config z (hop_time_outs t new.hops)) (sym e)

none_late : (t : ℕ) (h : Hops) → hops.first_due t h ≡ None → hops.due t h ≡ []
none_late t h none = due_open t h ∙ none_left (is_timed_out t) (opens h) (sym (first_open (is_timed_out t) (finite.entries h.held)) ∙ none)

pub hop_time_outs_end : (config : ModuleSettings) (t : ℕ) (s new : State) → is_some (hops.first_due t s.hops) ≡ false
    → new ≡ applied config s (hop_time_out (hops.first_due t s.hops)) → applied config s (hop_time_outs t s.hops) ≡ new
hop_time_outs_end config t s new none e =
    let is = none_is (hops.first_due t s.hops) none in
    ap (λ (hs : List Hop). applied config s (map hop_times_out hs)) (none_late t s.hops is)
    ∙ sym (e ∙ ap (λ (o : Option Hop). applied config s (hop_time_out o)) is)

all_hops_timed_out : (config : ModuleSettings) (s : State) (hs : List Hop) → outputs_of config s (map hop_times_out hs) ≡ map hop_timed_out hs
all_hops_timed_out config s [] = refl
all_hops_timed_out config s (hop ∷ hs) = ap (λ (z : List Output). hop_timed_out hop ∷ z)
    (all_hops_timed_out config (apply config s (HopTimesOut hop.opening.triad)) hs)

-- ---- the whole of a tick

pub ticked : (config : ModuleSettings) (s new : State) (us t : ℕ) (outs : List Output) → t ≡ s.now + us
    → new ≡ applied config (record s { now = t }) (pending_time_outs t s.pendings ++ hop_time_outs t s.hops)
    → outs ≡ pendings_timed_out t s.pendings ++ hops_timed_out t s.hops
    → Does config s (tick_effects s us) new outs
ticked config s new us t outs e after out = record {
  state = ap (λ k. applied config (record s { now = k }) (pending_time_outs k s.pendings ++ hop_time_outs k s.hops)) (sym e) ∙ sym after;
  out = let at : State = record s { now = s.now + us } in
      outputs_more config at (pending_time_outs (s.now + us) s.pendings) (hop_time_outs (s.now + us) s.hops)
      ∙ ap (λ (z : List Output). z ++ outputs_of config (applied config at (pending_time_outs (s.now + us) s.pendings)) (hop_time_outs (s.now + us) s.hops))
      (all_pendings_timed_out config (s.now + us) at (due (s.now + us) s.pendings) refl)
      ∙ ap (λ (z : List Output). pendings_timed_out (s.now + us) s.pendings ++ z)
      (all_hops_timed_out config (applied config at (pending_time_outs (s.now + us) s.pendings)) (hops.due (s.now + us) s.hops))
      ∙ ap (λ k. pendings_timed_out k s.pendings ++ hops_timed_out k s.hops) (sym e) ∙ sym out;
}

-- where nothing is due, time goes by and nothing else
pub quiet_tick : (config : ModuleSettings) (s : State) (us t : ℕ) → t ≡ s.now + us → due t s.pendings ≡ [] → hops.due t s.hops ≡ []
    → Does config s (tick_effects s us) (record s { now = t }) []
quiet_tick config s us t e waiting open_ =
    ticked config s (record s { now = t }) us t [] e
    (sym (ap (λ (ds : List (ℕ × Entry)). applied config (record s { now = t }) (map pending_times_out ds ++ hop_time_outs t s.hops)) waiting
    ∙ ap (λ (ds : List Hop). applied config (record s { now = t }) (map hop_times_out ds)) open_))
    (sym (ap (λ (ds : List (ℕ × Entry)). map shown ds ++ hops_timed_out t s.hops) waiting ∙ ap (λ (ds : List Hop). map hop_timed_out ds) open_))

-- what a tick answers from a state that looks the same
pub gives_from : {V : Type 0} (view : V → List Output) (config config' : ModuleSettings) (s s' new : State) (ms : ℕ) (result : Result V TickFault)
    → config' ≡ config → s' ≡ s → TickGives view config' s' new ms result → TickGives view config s new ms result
gives_from view config config' s s' new ms result same is gives =
    subst (λ (z : ModuleSettings). TickGives view z s new ms result) same (subst (λ (z : State). TickGives view config' z new ms result) is gives)
