-- A Produce sends one datum at most to each up side that one connection alone has.
use Rattle.std.proofs.Common.{◌≡◌, ℕ, suc, ◌+◌, ◌<◌, ◌≤◌, Bool, true, false, cond, ◌&&◌, T, List, [], ◌∷◌, ◌++◌, length, get_or, eqb, Option, Some, None, refl}
use Rattle.std.proofs.Common.{sym, ap, subst, ◌∙◌, arith, append_assoc}
use Rattle.std.specs.FinMap as map
use Rattle.std.specs.FinMap.Entries.{is_sorted, below_all}
use Rattle.std.specs.Ordering.{is_lt}
use Rattle.std.specs.Cmp.{tied_itself}
use Rattle.std.specs.Str.{bytes_eq}
use Rattle.cip_base.specs.Triads.{triad_cmp}
use Rattle.cip_base.specs.declared.triad.Triad.{Triad}
use Rattle.cip_base.specs.Fields.{word}
use Rattle.cip_base.proofs.MapCases.{some_same}
use Rattle.cip_base.proofs.Sorted.{first, second}
use Rattle.cip_base.proofs.Triads.{triads_total}
use Rattle.cip_base.proofs.Views.{get-at}
use Rattle.cip_hops.specs.declared.opening.HopUp.{HopUp}
use Rattle.cip_hops.specs.declared.opening.HopUp.TheVariants.{Link as UpLink, Local as UpLocal}
use Rattle.cip_hops.specs.declared.opening.Opening.{Opening}
use Rattle.cip_hops.specs.declared.hop.Hop.{Hop}
use Rattle.cip_hops.specs.declared.hop.Held.{Held}
use Rattle.cip_hops.specs.declared.hop.Held.TheVariants.{Opening as IsOpening, Open}
use Rattle.cip_hops.specs.declared.hop.Side.TheVariants.{Up, Down}
use Rattle.cip_hops.specs.Hops.{opening_of, hop_at, triad_of}
use Rattle.cip_hops.proofs.Steps.{triads_apart}
use Rattle.cip_config.specs.declared.config.ModuleSettings.{ModuleSettings}
use Rattle.cip_event.specs.declared.event.Body.{Body}
use Rattle.cip_event.specs.declared.event.Body.TheVariants as bodies
use Rattle.cip_event.specs.declared.event.Command.TheVariants as commands
use Rattle.cip_event.specs.declared.event.Event.TheVariants as events
use Rattle.cip_event.specs.declared.event.Output.{Output}
use Rattle.cip_event.specs.declared.event.Output.TheVariants as outputs
use Rattle.cip_laws.specs.EffectLists.{HasStood}
use Rattle.cip_routing.specs.Effects.{Effect, Passes, Counts, datum_up, passed, apply, applied, outputs_of}
use Rattle.cip_routing.specs.Produced.{reads_from, next_count, made_effects, held_effects, each_effects}
use Rattle.cip_routing.specs.State.{State}
use Rattle.cip_routing.specs.Table.{decide, produce_effects}
use Rattle.cip_laws.specs.Weights.{mark, weight_in}
use Rattle.cip_laws.proofs.ProducedStand.{produced_stood}
use Rattle.cip_routing.proofs.Removed.{open_at}
use Rattle.cip_laws.proofs.Triads.{HasOwnTriads}
use Rattle.cip_laws.proofs.Turns.{applied-append, outputs-append}
use Rattle.cip_laws.proofs.Weighing.{weight_in-append}
use Rattle.cip_world.proofs.Given.{same_up}

module _ (port id : ℕ) (to : List ℕ) where
  -- the up side is the link by this port to this address, where the id is this
  abbrev pub is_there : HopUp → Bool
  is_there (UpLink p a c) = (eqb p port && bytes_eq a to) && eqb c id
  is_there (UpLocal op) = false

  abbrev pub data_to : ℕ → List ℕ → Body → ℕ
  data_to p a (bodies.Request number bytes) = 0
  data_to p a (bodies.Reply number bytes) = 0
  data_to p a (bodies.Data c bytes) = mark ((eqb p port && bytes_eq a to) && eqb c id)

  -- a datum to there
  abbrev pub goes_there : Output → ℕ
  goes_there (outputs.Send p a body) = data_to p a body
  goes_there (outputs.Done op reply) = 0
  goes_there (outputs.Refused fault) = 0
  goes_there (outputs.Consumed triad instance bytes) = 0
  goes_there (outputs.Arrived op bytes) = 0
  goes_there (outputs.Expired triad) = 0
  goes_there (outputs.Ended op) = 0
  goes_there (outputs.Dropped reason) = 0

  -- those that have it
  abbrev pub having : List (Triad × Held) → ℕ
  having [] = 0
  having (e ∷ es) = mark (is_there (opening_of e.1).up) + having es

  up_weighs : (up : HopUp) (bytes : List ℕ) → goes_there (datum_up up bytes) ≡ mark (is_there up)
  up_weighs (UpLink p a c) bytes = refl
  up_weighs (UpLocal op) bytes = refl

  -- ---- one of those that stand

  abbrev IsFine : (s : State) → Triad × Held → Type 0
  IsFine s e = (map.get s.hops.held e.0 ≡ Some e.1) × (triad_of e.1 ≡ e.0)

  abbrev AllFine : (s : State) → List (Triad × Held) → Type 0
  AllFine s [] = Unit {0}
  AllFine s (e ∷ es) = IsFine s e × AllFine s es

  all_fine : (s : State) (es : List (Triad × Held)) → ((i : ℕ) (d : Triad × Held) → i < length es → IsFine s (get_or es i d)) → AllFine s es
  all_fine s [] h = tt
  all_fine s (e ∷ es) h = (h 0 e (omega arith), all_fine s es (λ i d lt. h (suc i) d (omega arith)))

  -- whoever has it stands under this triad
  abbrev IsAlone : State → Type 0
  IsAlone s = (q r : Triad) (x y : Held) → map.get s.hops.held q ≡ Some x → map.get s.hops.held r ≡ Some y
      → is_there (opening_of x).up ≡ true → is_there (opening_of y).up ≡ true → q ≡ r

  no_more : (s : State) (q : Triad) (x : Held) (es : List (Triad × Held)) → IsAlone s → map.get s.hops.held q ≡ Some x → is_there (opening_of x).up ≡ true
      → AllFine s es
      → T (below_all triad_cmp q es) → having es ≡ 0
  no_more s q x [] alone at has fine below = refl
  no_more s q x (e ∷ es) alone at has fine below =
      let rest = no_more s q x es alone at has fine.1 (second _ _ below) in
      by_mark (is_there (opening_of e.1).up) refl rest
    where
      by_mark : (b : Bool) → is_there (opening_of e.1).up ≡ b → having es ≡ 0 → mark (is_there (opening_of e.1).up) + having es ≡ 0
      by_mark false t rest = let none = ap mark t in omega (arith, none, rest)
      by_mark true t rest =
          let same : q ≡ e.0 = alone q e.0 x e.1 at fine.0.0 has t in
          let itself : T (is_lt (triad_cmp q q)) = subst (λ (r : Triad). T (is_lt (triad_cmp q r))) (sym same) (first _ _ below) in
          absurd (subst (λ r. T (is_lt r)) (tied_itself triads_total q) itself)

  at_most : (b : Bool) → mark b ≤ 1
  at_most true = omega arith
  at_most false = omega arith

  one_has : (s : State) (es : List (Triad × Held)) → IsAlone s → AllFine s es → T (is_sorted triad_cmp es) → having es ≤ 1
  one_has s [] alone fine sorted = omega arith
  one_has s (e ∷ es) alone fine sorted =
      by_mark (is_there (opening_of e.1).up) refl (one_has s es alone fine.1 (second _ _ sorted))
    where
      by_mark : (b : Bool) → is_there (opening_of e.1).up ≡ b → having es ≤ 1 → mark (is_there (opening_of e.1).up) + having es ≤ 1
      by_mark false t rest = let none = ap mark t in omega (arith, none, rest)
      by_mark true t rest =
          let none = no_more s e.0 e.1 es alone fine.0.0 t fine.1 (first _ _ sorted) in
          let one = at_most (is_there (opening_of e.1).up) in
          omega (arith, none, one)

  -- ---- what a Produce sends

  module _ (config : ModuleSettings) (s : State) (instance : ℕ) (held : List ℕ) (es : List Effect)
      (decided : decide config s (events.Command (commands.Produce instance)) ≡ Some es) where
    passes_weight : (mid : State) (hop : Hop) (bytes : List ℕ) (o : Option Hop) → hop_at mid.hops hop.opening.triad ≡ o → HasStood s mid
        → map.get s.hops.held hop.opening.triad ≡ Some (Open hop)
        → weight_in goes_there (passed Up o bytes) ≤ mark (is_there hop.opening.up)
    passes_weight mid hop bytes None at stood stands = omega arith
    passes_weight mid hop bytes (Some g) at stood stands =
        let was = stood.held hop.opening.triad (Open g) (open_at mid.hops hop.opening.triad g at) in
        let old : was.old ≡ Open hop = some_same was.old (Open hop) (sym was.at ∙ stands) in
        let same = same_up was.old g hop was.core old in
        let one = up_weighs g.opening.up bytes in
        let there = ap (λ (x : Opening). mark (is_there x.up)) same in
        omega (arith, one, there)

    made_weight : (before after : List Effect) (hop : Hop) → before ++ (made_effects held hop ++ after) ≡ es
        → map.get s.hops.held hop.opening.triad ≡ Some (Open hop)
        → weight_in goes_there (outputs_of config (applied config s before) (made_effects held hop)) ≤ mark (is_there hop.opening.up)
    made_weight before after hop place stands =
        elim (eqb hop.opening.class 1) as (λ b.
        before ++ (cond b (Counts hop.opening.triad Down (next_count hop.produced) ∷ Passes hop.opening.triad Up (word (next_count hop.produced) ++ held) ∷ [])
        (Passes hop.opening.triad Up held ∷ []) ++ after) ≡ es
        → weight_in goes_there (outputs_of config (applied config s before)
        (cond b (Counts hop.opening.triad Down (next_count hop.produced) ∷ Passes hop.opening.triad Up (word (next_count hop.produced) ++ held) ∷ [])
        (Passes hop.opening.triad Up held ∷ []))) ≤ mark (is_there hop.opening.up)) [
          | true ↦ λ is.
              let counts = Counts hop.opening.triad Down (next_count hop.produced) in
              let bytes = word (next_count hop.produced) ++ held in
              let mid = apply config (applied config s before) counts in
              let stood : HasStood s mid = subst (HasStood s) (applied-append config s before (counts ∷ []))
              (produced_stood config s instance es (before ++ (counts ∷ [])) after (Passes hop.opening.triad Up bytes) decided
              (append_assoc before (counts ∷ []) (Passes hop.opening.triad Up bytes ∷ after) ∙ is)) in
              let one = passes_weight mid hop bytes (hop_at mid.hops hop.opening.triad) refl stood stands in
              let none = weight_in-append goes_there (passed Up (hop_at mid.hops hop.opening.triad) bytes) [] in
              omega (arith, one, none)
          | false ↦ λ is.
              let mid = applied config s before in
              let stood = produced_stood config s instance es before after (Passes hop.opening.triad Up held) decided is in
              let one = passes_weight mid hop held (hop_at mid.hops hop.opening.triad) refl stood stands in
              let none = weight_in-append goes_there (passed Up (hop_at mid.hops hop.opening.triad) held) [] in
              omega (arith, one, none)
        ] place

    held_weight : (before after : List Effect) (x : Held) → before ++ (held_effects instance held x ++ after) ≡ es → map.get s.hops.held (triad_of x) ≡ Some x
        → weight_in goes_there (outputs_of config (applied config s before) (held_effects instance held x)) ≤ mark (is_there (opening_of x).up)
    held_weight before after (IsOpening o ids) place stands = omega arith
    held_weight before after (Open hop) place stands =
        elim (reads_from instance hop.opening.down) as (λ b. before ++ (cond b (made_effects held hop) [] ++ after) ≡ es
        → weight_in goes_there (outputs_of config (applied config s before) (cond b (made_effects held hop) [])) ≤ mark (is_there hop.opening.up)) [
          | true ↦ λ is. made_weight before after hop is stands
          | false ↦ λ is. omega arith
        ] place

    each_weight : (before : List Effect) (xs : List (Triad × Held)) → before ++ each_effects instance held xs ≡ es → AllFine s xs
        → weight_in goes_there (outputs_of config (applied config s before) (each_effects instance held xs)) ≤ having xs
    each_weight before [] place fine = omega arith
    each_weight before (e ∷ xs) place fine =
        let here = held_effects instance held e.1 in
        let rest = each_effects instance held xs in
        let mid = applied config s before in
        let one = held_weight before rest e.1 place (ap (map.get s.hops.held) fine.0.1 ∙ fine.0.0) in
        let more = each_weight (before ++ here) xs (append_assoc before here rest ∙ place) fine.1 in
        let then = ap (λ (st : State). weight_in goes_there (outputs_of config st rest)) (applied-append config s before here) in
        let all = ap (weight_in goes_there) (outputs-append config mid here rest) in
        let sum = weight_in-append goes_there (outputs_of config mid here) (outputs_of config (applied config mid here) rest) in
        omega (arith, one, more, then, all, sum)

  pub produced_once : (config : ModuleSettings) (s : State) (instance : ℕ) (es : List Effect) → HasOwnTriads s → IsAlone s
      → decide config s (events.Command (commands.Produce instance)) ≡ Some es → weight_in goes_there (outputs_of config s es) ≤ 1
  produced_once config s instance es own alone decided = by_assembly (map.get s.assemblies instance) refl
    where
      by_assembly : (g : Option (List ℕ)) → map.get s.assemblies instance ≡ g → weight_in goes_there (outputs_of config s es) ≤ 1
      by_assembly None found =
          let whole : Some (produce_effects s instance None) ≡ Some es = ap (λ (x : Option (List ℕ)). Some (produce_effects s instance x)) (sym found)
          ∙ decided in
          let same : produce_effects s instance None ≡ es = cc in
          let none = ap (λ (x : List Effect). weight_in goes_there (outputs_of config s x)) same in
          omega (arith, none)
      by_assembly (Some held) found =
          let whole : Some (produce_effects s instance (Some held)) ≡ Some es = ap (λ (x : Option (List ℕ)). Some (produce_effects s instance x)) (sym found)
          ∙ decided in
          let same : produce_effects s instance (Some held) ≡ es = cc in
          let entries = map.entries s.hops.held in
          let fine = all_fine s entries (λ i d lt.
          let at = get-at triad_cmp triads_total triads_apart s.hops.held i d lt in (at, own (get_or entries i d).0 (get_or entries i d).1 at)) in
          let all = each_weight config s instance held es decided [] entries same fine in
          let one = one_has s entries alone fine (map.entries_sorted s.hops.held) in
          let same_weight = ap (λ (x : List Effect). weight_in goes_there (outputs_of config s x)) same in
          omega (arith, all, one, same_weight)
