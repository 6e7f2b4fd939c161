-- What `chain` answers, as a function of the run.
use Rattle.std.proofs.Common.{◌≡◌, ℕ, zero, suc, ◌<◌, Bool, true, false, List, [], ◌∷◌, length, map, drop, get_or, Option, Some, None, Ok, Err, refl, sym, ap}
use Rattle.std.proofs.Common.{◌∙◌, arith}
use Rattle.std.specs.Prelude.{slice_get, option_and_then}
use Rattle.std.specs.FinMap as finite
use Rattle.cip_base.specs.declared.numbers.ModuleId.{ModuleId}
use Rattle.cip_base.specs.declared.triad.Triad.{Triad}
use Rattle.cip_segment.proofs.PathsShorten.{hop_shortens}
use Rattle.cip_hops.specs.declared.hop.Held.{Held}
use Rattle.cip_hops.specs.declared.hop.Held.TheVariants.{Opening as IsOpening, Open}
use Rattle.cip_hops.specs.declared.hop.Hop.{Hop}
use Rattle.cip_hops.specs.declared.opening.HopDown.{HopDown}
use Rattle.cip_hops.specs.declared.opening.HopDown.TheVariants.{Link as DownLink, End}
use Rattle.cip_hops.specs.Hops.{as_hop, hop_at, hop_by_op, is_hop_by_op}
use Rattle.cip_config.specs.declared.config.ModuleSettings.{ModuleSettings}
use Rattle.cip_routing.specs.State.{State}
use Rattle.cip_routing.proofs.Found.{found_own}
use Rattle.cip_laws.proofs.Triads.{own_triads}
use Rattle.cip_chassis.specs.Plan.{Plan}
use Rattle.cip_world.specs.Chains.{Member, HasHop, IsNextTo, GoesToEnd, GoesOnBy, last_of}
use Rattle.cip_world.specs.Journals.{Journal, part}
use Rattle.cip_world.specs.Runs.{IsModule, IsRun, state_in}
use Rattle.cip_world.proofs.Given.{by_op}
use Rattle.cip_world.proofs.Leading.{across_node}
use Rattle.cip_world.proofs.Parts.{run_history}
use Rattle.cip_chain.specs.declared.chains.ChainView.{ChainView}
use Rattle.cip_chain.specs.declared.chains.ChainFault.TheVariants as faults
use Rattle.cip_chain.specs.Answers.{IsPath, IsView, IsBroken}
use Rattle.cip_chain.specs.Found.{IsNotOpen, LeadsNowhere}
use Rattle.cip_chain.proofs.Followed.{found_op}
use Rattle.cip_chain.proofs.Opened.{has_id, id_has}
use Rattle.cip_transcript.specs.Chained.{Chained, if_so, is_named, under_id, next_hop, behind, at_next, at_node, below, chain_from, from_first, chain_of}

abbrev place : ℕ → ModuleId
place m = record { 0 = m }

-- ---- what stands next to a connection

named_so : (id : Option ℕ) → is_named id id ≡ true
named_so None = refl
named_so (Some id) = id_has id (Some id) refl

-- it is found there
next_is : (t : Plan) (j : Journal) (x y : Member) → IsNextTo t j x y → next_hop t j y.at x.hop ≡ Some y.hop
next_is t j x y next =
    let s = state_in next.has.config y.at j in
    let stands : hop_at s.hops x.hop.opening.triad ≡ Some y.hop =
    ap (hop_at s.hops) (sym next.mirrors.triad_is) ∙ ap (option_and_then as_hop) next.has.stands in
    let named : is_named x.hop.their_id y.hop.ids.up ≡ true =
    ap (is_named x.hop.their_id) next.mirrors.id_is ∙ named_so x.hop.their_id in
    ap (λ (o : Option ModuleSettings). under_id x.hop.their_id (option_and_then (λ config. hop_at (state_in config y.at j).hops x.hop.opening.triad) o))
    next.has.is_module
    ∙ ap (under_id x.hop.their_id) stands
    ∙ ap (λ b. if_so b y.hop) named

-- what stands under a triad is a connection of the module
module _ (t : Plan) (j : Journal) (run : IsRun t j) (m : ℕ) (config : ModuleSettings) (is : IsModule t m config) where
  as_open : (x : Held) (g : Hop) → as_hop x ≡ Some g → x ≡ Open g
  as_open (IsOpening o ids) g e = absurd (cc)
  as_open (Open h) g e = let same : h ≡ g = cc in ap Open same

  abbrev s : State
  s = state_in config m j

  has_hop : (q : Triad) (g : Hop) (o : Option Held) → finite.get s.hops.held q ≡ o → option_and_then as_hop o ≡ Some g
      → HasHop t j (record { at = m; hop = g })
  has_hop q g None at e = absurd (cc)
  has_hop q g (Some x) at e =
      let open_ : finite.get s.hops.held q ≡ Some (Open g) = at ∙ ap Some (as_open x g e) in
      let own = own_triads config (part m j) (run_history t j m config run is) in
      record {
        config = config;
        is_module = is;
        stands = ap (finite.get s.hops.held) (own q (Open g) open_) ∙ open_;
      }

is_lacked : (t : Plan) (j : Journal) (run : IsRun t j) (x : Member) (b : ℕ) → LeadsNowhere t j x b → next_hop t j b x.hop ≡ None
is_lacked t j run x b l =
    ap (λ (id : Option ℕ). under_id id (there (slice_get t.modules b))) l.their_is ∙ by_module (slice_get t.modules b) refl
  where
    there : Option ModuleSettings → Option Hop
    there o = option_and_then (λ config. hop_at (state_in config b j).hops x.hop.opening.triad) o

    by_named : (g : Hop) (n : Bool) → is_named (Some l.id) g.ids.up ≡ n → HasHop t j (record { at = b; hop = g }) → if_so n g ≡ None
    by_named g true named has = absurd (l.lacks (record { at = b; hop = g }) has refl (has_id l.id g.ids.up named))
    by_named g false named has = refl

    by_hop : (config : ModuleSettings) → IsModule t b config → (o : Option Hop) → hop_at (state_in config b j).hops x.hop.opening.triad ≡ o
        → under_id (Some l.id) o ≡ None
    by_hop config is None e = refl
    by_hop config is (Some g) e =
        by_named g (is_named (Some l.id) g.ids.up) refl
        (has_hop t j run b config is x.hop.opening.triad g (finite.get (state_in config b j).hops.held x.hop.opening.triad) refl e)

    by_module : (o : Option ModuleSettings) → slice_get t.modules b ≡ o → under_id (Some l.id) (there o) ≡ None
    by_module None e = refl
    by_module (Some config) e = by_hop config e (hop_at (state_in config b j).hops x.hop.opening.triad) refl

-- ---- from connection to connection

module _ (t : Plan) (j : Journal) where
  one_more : (n m : ℕ) (hop : Hop) → chain_from t j (suc n) m hop ≡ below t j m hop hop.opening.down (chain_from t j n)
  unfolding chain_from
  one_more n m hop = refl

  to_next : (n : ℕ) (x y : Member) → IsNextTo t j x y → chain_from t j (suc n) x.at x.hop ≡ behind x.at (chain_from t j n y.at y.hop)
  to_next n x y next =
      let leads = across_node t (record { at = x.at; port = next.port; address = next.address }) next.there next.across in
      one_more n x.at x.hop
      ∙ ap (λ (d : HopDown). below t j x.at x.hop d (chain_from t j n)) next.down_is
      ∙ ap (λ (o : Option ℕ). behind x.at (at_node t j x.hop o (chain_from t j n))) (leads ∙ ap Some next.at_is)
      ∙ ap (λ (o : Option Hop). behind x.at (at_next y.at o (chain_from t j n))) (next_is t j x y next)

  to_nowhere : IsRun t j → (n : ℕ) (x : Member) (b : ℕ) → LeadsNowhere t j x b → chain_from t j (suc n) x.at x.hop ≡ Err (faults.Broken (place b))
  to_nowhere run n x b l =
      one_more n x.at x.hop
      ∙ ap (λ (d : HopDown). below t j x.at x.hop d (chain_from t j n)) l.down_is
      ∙ ap (λ (o : Option ℕ). behind x.at (at_node t j x.hop o (chain_from t j n))) l.leads
      ∙ ap (λ (o : Option Hop). behind x.at (at_next b o (chain_from t j n))) (is_lacked t j run x b l)

  to_end : (n : ℕ) (x : Member) → (e : GoesToEnd x.hop)
      → chain_from t j (suc n) x.at x.hop ≡ Ok (record { modules = place x.at ∷ []; end = record { consume = e.consume; produce = e.produce } })
  to_end n x e =
      one_more n x.at x.hop ∙ ap (λ (d : HopDown). below t j x.at x.hop d (chain_from t j n)) e.down_is

  abbrev places : Member → List Member → List ModuleId
  places x ys = map (λ (y : Member). place y.at) (x ∷ ys)

  shorter : (x y : Member) (n : ℕ) → IsNextTo t j x y → length x.hop.opening.path < suc n → length y.hop.opening.path < n
  shorter x y n next most =
      let less = hop_shortens x.hop.opening.path next.mirrors.first next.mirrors.first_is in
      let path = ap (λ (p : List ℕ). length p) next.mirrors.path_is in
      omega (arith, less, path, most)

  goes_told : (n : ℕ) (x : Member) (ys : List Member) → GoesOnBy t j x ys → length x.hop.opening.path < n → (e : GoesToEnd (last_of x ys).hop)
      → chain_from t j n x.at x.hop ≡ Ok (record { modules = places x ys; end = record { consume = e.consume; produce = e.produce } })
  goes_told zero x ys on most e = absurd (omega (arith, most))
  goes_told (suc n) x [] on most e = to_end n x e
  goes_told (suc n) x (y ∷ ys) on most e =
      to_next n x y on.0 ∙ ap (behind x.at) (goes_told n y ys on.1 (shorter x y n on.0 most) e)

  broken_from : IsRun t j → (n : ℕ) (x : Member) (ys : List Member) (b : ℕ) → IsPath t j x ys → length x.hop.opening.path < n
      → LeadsNowhere t j (last_of x ys) b → chain_from t j n x.at x.hop ≡ Err (faults.Broken (place b))
  broken_from run zero x ys b path most l = absurd (omega (arith, most))
  broken_from run (suc n) x [] b path most l = to_nowhere run n x b l
  broken_from run (suc n) x (y ∷ ys) b path most l =
      to_next n x y path.0 ∙ ap (behind x.at) (broken_from run n y ys b path.1 (shorter x y n path.0 most) l)

  -- ---- from the first on

  opened_told : (m op : ℕ) (x : Member) → x.at ≡ m → (has : HasHop t j x) → hop_by_op (state_in has.config x.at j).hops op ≡ Some x.hop
      → chain_of t j m op ≡ chain_from t j (suc (length x.hop.opening.path)) x.at x.hop
  opened_told m op x at has found =
      ap (λ (k : ℕ). chain_of t j k op) (sym at)
      ∙ ap (λ (o : Option ModuleSettings). from_first t j x.at (option_and_then (λ config. hop_by_op (state_in config x.at j).hops op) o)) has.is_module
      ∙ ap (from_first t j x.at) found

same_places : (xs : List Member) (ms : List ModuleId) → map (λ (x : Member). x.at) xs ≡ map (λ (m : ModuleId). m.0) ms
    → map (λ (y : Member). place y.at) xs ≡ ms
same_places [] [] e = refl
same_places [] (m ∷ ms) e = absurd (cc)
same_places (x ∷ xs) [] e = absurd (cc)
same_places (x ∷ xs) (m ∷ ms) e =
    let here : x.at ≡ m.0 = ap (λ (ns : List ℕ). get_or ns 0 0) e in
    let rest = same_places xs ms (ap (λ (ns : List ℕ). drop 1 ns) e) in
    λ i. place (here i) ∷ rest i

pub view_told : (t : Plan) (j : Journal) (m op : ℕ) (view : ChainView) → IsRun t j → IsView t j m op view → chain_of t j m op ≡ Ok view
view_told t j m op view run v =
    let modules = same_places (v.first ∷ v.rest) view.modules v.modules in
    opened_told t j m op v.first v.at_is v.chain.has v.chain.opened
    ∙ goes_told t j (suc (length v.first.hop.opening.path)) v.first v.rest v.chain.goes_on (omega arith) v.end
    ∙ (λ i. Ok (record { modules = modules i; end = record { consume = v.consume_is i; produce = v.produce_is i } }))

pub broken_told : (t : Plan) (j : Journal) (m op b : ℕ) → IsRun t j → IsBroken t j m op b → chain_of t j m op ≡ Err (faults.Broken (place b))
broken_told t j m op b run broken =
    opened_told t j m op broken.first broken.at_is broken.has (found_op t j run broken.first broken.has op broken.up_is)
    ∙ broken_from t j run (suc (length broken.first.hop.opening.path)) broken.first broken.rest b broken.path (omega arith) broken.nowhere

pub not_open_told : (t : Plan) (j : Journal) (m op : ℕ) → IsRun t j → IsNotOpen t j m op → chain_of t j m op ≡ Err faults.NotOpen
not_open_told t j m op run none = by_module (slice_get t.modules m) refl
  where
    by_hop : (config : ModuleSettings) → IsModule t m config → (o : Option Hop) → hop_by_op (state_in config m j).hops op ≡ o
        → from_first t j m o ≡ Err faults.NotOpen
    by_hop config is None e = refl
    by_hop config is (Some g) e =
        let own = own_triads config (part m j) (run_history t j m config run is) in
        let stands = (found_own (is_hop_by_op op) (state_in config m j).hops g e own).0 in
        let has = has_hop t j run m config is g.opening.triad g (finite.get (state_in config m j).hops.held g.opening.triad) refl stands in
        absurd (none (record { at = m; hop = g }) has refl (by_op (state_in config m j) g op own e))

    by_module : (o : Option ModuleSettings) → slice_get t.modules m ≡ o
        → from_first t j m (option_and_then (λ config. hop_by_op (state_in config m j).hops op) o) ≡ Err faults.NotOpen
    by_module None e = refl
    by_module (Some config) e = by_hop config e (hop_by_op (state_in config m j).hops op) refl
