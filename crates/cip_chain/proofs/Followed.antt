-- From connection to connection along a chain.
use Rattle.std.proofs.Common.{◌≡◌, ℕ, ◌<◌, true, List, [], ◌∷◌, ◌++◌, reverse, length, Some, None, refl, sym, ap, subst, ◌∙◌, arith, eqb}
use Rattle.std.specs.Prelude.{map}
use Rattle.std.specs.Option.{option_and_then}
use Rattle.std.specs.FinMap as finite
use Rattle.std.proofs.lemmas.Bool.{eqb-true}
use Rattle.cip_base.specs.Triads.{triad_cmp}
use Rattle.cip_base.specs.declared.numbers.ModuleId.{ModuleId}
use Rattle.cip_base.specs.declared.triad.Triad.{Triad}
use Rattle.cip_base.proofs.Triads.{triads_total}
use Rattle.cip_base.proofs.Views.{find-only}
use Rattle.cip_segment.proofs.PathsShorten.{hop_shortens}
use Rattle.cip_open.specs.Open.{Open as OpenRequest}
use Rattle.cip_hops.specs.declared.hop.Held.{Held}
use Rattle.cip_hops.specs.declared.hop.Held.TheVariants.{Opening as IsOpening, Open}
use Rattle.cip_hops.specs.declared.opening.HopUp.TheVariants.{Local as UpLocal}
use Rattle.cip_hops.specs.declared.hop.Hop.{Hop}
use Rattle.cip_routing.specs.declared.tables.HopRow.{HopRow}
use Rattle.cip_hops.specs.Hops.{Hops, as_hop, is_hop, is_hop_by_op, hop_by_op}
use Rattle.cip_hops.specs.Sides.{op_of}
use Rattle.cip_hops.proofs.Steps.{triads_apart}
use Rattle.cip_laws.proofs.Triads.{own_triads}
use Rattle.cip_chassis.specs.Plan.{Plan}
use Rattle.cip_world.specs.Chains.{Member, HasHop, IsNextTo, GoesToEnd, GoesOnBy, last_of}
use Rattle.cip_world.specs.Journals.{Journal, part}
use Rattle.cip_world.specs.Runs.{IsRun, state_in}
use Rattle.cip_world.specs.Worlds.{looked_up}
use Rattle.cip_world.proofs.Commands.{OpenOf, opened_by_op}
use Rattle.cip_world.proofs.OpenedOnce.{opened_once}
use Rattle.cip_world.proofs.Parts.{run_history}
use Rattle.cip_chain.specs.declared.chains.ChainView.{ChainView}
use Rattle.cip_chain.specs.declared.chains.ChainFault.{ChainFault}
use Rattle.cip_chain.specs.declared.chains.ChainFault.TheVariants as faults
use Rattle.cip_chain.specs.declared.seeking.Here.{Here}
use Rattle.cip_chain.specs.declared.seeking.Next.TheVariants as nexts
use Rattle.cip_chain.specs.Answers.{IsChainFault, IsPath, IsView, IsBroken, IsReached, left}
use Rattle.cip_chain.specs.Found.{member, IsSeen, IsNext, IsNextFault, IsNotOpen, LeadsNowhere, IsOpened}
use Rattle.cip_chain.proofs.Opened.{has_id, id_has, local_op, look_at}

-- ---- one more

last_more : (x : Member) (ys : List Member) (z : Member) → last_of x (ys ++ z ∷ []) ≡ z
last_more x [] z = refl
last_more x (y ∷ ys) z = last_more y ys z

path_more : (t : Plan) (j : Journal) (x : Member) (ys : List Member) (z : Member) → IsPath t j x ys → IsNextTo t j (last_of x ys) z
    → IsPath t j x (ys ++ z ∷ [])
path_more t j x [] z path next = (next, tt)
path_more t j x (y ∷ ys) z path next = (path.0, path_more t j y ys z path.1 next)

map_more : {X Y : Type 0} (f : X → Y) (xs : List X) (x : X) → map f (xs ++ x ∷ []) ≡ map f xs ++ f x ∷ []
map_more f [] x = refl
map_more f (y ∷ xs) x = ap (λ ys. f y ∷ ys) (map_more f xs x)

pub reached_first : (t : Plan) (j : Journal) (m op : ℕ) (here : Here) (modules : List ModuleId) → IsOpened t j m op here → modules ≡ here.at ∷ []
    → IsReached t j m op here modules
reached_first t j m op here modules o is = record {
  first = member here o.hop;
  rest = [];
  at_is = o.at_is;
  has = o.seen.has;
  up_is = o.up_is;
  path = tt;
  modules_are = ap (λ (ms : List ModuleId). map (λ (i : ModuleId). i.0) ms) (sym is);
  hop = o.hop;
  seen = o.seen;
  last_is = refl;
}

pub reached_next : (t : Plan) (j : Journal) (m op : ℕ) (here next : Here) (modules more : List ModuleId) → (r : IsReached t j m op here modules)
    → IsNext t j (member here r.hop) (nexts.Hop next) → more ≡ modules ++ next.at ∷ [] → IsReached t j m op next more
reached_next t j m op here next modules more r step is =
    let y : Member = member next step.0 in
    record {
      first = r.first;
      rest = r.rest ++ y ∷ [];
      at_is = r.at_is;
      has = r.has;
      up_is = r.up_is;
      path = path_more t j r.first r.rest y r.path (subst (λ (x : Member). IsNextTo t j x y) (sym r.last_is) step.2);
      modules_are = map_more (λ (x : Member). x.at) (r.first ∷ r.rest) y ∙ (λ i. r.modules_are i ++ next.at.0 ∷ [])
          ∙ sym (map_more (λ (n : ModuleId). n.0) modules next.at) ∙ ap (λ (ms : List ModuleId). map (λ (n : ModuleId). n.0) ms) (sym is);
      hop = step.0;
      seen = step.1;
      last_is = last_more r.first r.rest y;
    }

pub shorter : (t : Plan) (j : Journal) (here next : Here) (hop : Hop) → IsSeen t j here hop → IsNext t j (member here hop) (nexts.Hop next)
    → left next < left here
shorter t j here next hop seen step =
    let less = hop_shortens hop.opening.path step.2.mirrors.first step.2.mirrors.first_is in
    let path = ap (λ (p : List ℕ). length p) step.2.mirrors.path_is in
    let ours = ap (λ (r : HopRow). length r.path) seen.row_is in
    let theirs = ap (λ (r : HopRow). length r.path) step.1.row_is in
    omega (arith, less, path, ours, theirs)

-- ---- at the end

to_end : (t : Plan) (j : Journal) (x : Member) (ys : List Member) → IsPath t j x ys → GoesToEnd (last_of x ys).hop → GoesOnBy t j x ys
to_end t j x [] path end = end
to_end t j x (y ∷ ys) path end = (path.0, to_end t j y ys path.1 end)

-- the connection that an op opened is found by the op
module _ (t : Plan) (j : Journal) (run : IsRun t j) (x : Member) (has : HasHop t j x) (op : ℕ) (up : x.hop.opening.up ≡ UpLocal op) where
  open_ : OpenOf t j x.at op x.hop.opening
  open_ = opened_by_op t j x.at has.config run has.is_module x.hop.opening.triad (Open x.hop) op has.stands up

  only : (r : Triad) (y : Held) → finite.get (state_in has.config x.at j).hops.held r ≡ Some y → is_hop (is_hop_by_op op) y ≡ true → r ≡ x.hop.opening.triad
  only r (IsOpening o ids) at pass = absurd (cc)
  only r (Open g) at pass =
      let other = opened_by_op t j x.at has.config run has.is_module r (Open g) op at (local_op op g.opening.up (has_id op (op_of g.opening.up) pass)) in
      let same = (opened_once t j x.at op other.request open_.request run other.opened open_.opened).1 in
      let own = own_triads has.config (part x.at j) (run_history t j x.at has.config run has.is_module) in
      sym (own r (Open g) at) ∙ sym other.triad_is ∙ ap (λ (o : OpenRequest). o.fields.triad) same ∙ open_.triad_is

  pub found_op : hop_by_op (state_in has.config x.at j).hops op ≡ Some x.hop
  found_op =
      ap (option_and_then (λ (e : Triad × Held). as_hop e.1))
      (find-only triad_cmp triads_total triads_apart (state_in has.config x.at j).hops.held (λ e. is_hop (is_hop_by_op op) e.1) x.hop.opening.triad
      (Open x.hop) has.stands
      (id_has op (op_of x.hop.opening.up) (ap op_of up)) only)

pub viewed : (t : Plan) (j : Journal) (m op : ℕ) (here : Here) (modules : List ModuleId) (view : ChainView) → IsRun t j → (r : IsReached t j m op here modules)
    → (e : GoesToEnd r.hop) × (e.consume ≡ view.end.consume) × (e.produce ≡ view.end.produce) → view.modules ≡ modules → IsView t j m op view
viewed t j m op here modules view run r at_end is =
    let ends = subst (λ (x : Member). (e : GoesToEnd x.hop) × (e.consume ≡ view.end.consume) × (e.produce ≡ view.end.produce)) (sym r.last_is) at_end in
    record {
      first = r.first;
      rest = r.rest;
      at_is = r.at_is;
      chain = record { has = r.has; opened = found_op t j run r.first r.has op r.up_is; goes_on = to_end t j r.first r.rest r.path ends.0 };
      modules = r.modules_are ∙ ap (λ (ms : List ModuleId). map (λ (n : ModuleId). n.0) ms) (sym is);
      end = ends.0;
      consume_is = ends.1;
      produce_is = ends.2;
    }

pub broken : (t : Plan) (j : Journal) (m op : ℕ) (here : Here) (modules : List ModuleId) (b : ℕ) → (r : IsReached t j m op here modules)
    → LeadsNowhere t j (member here r.hop) b → IsBroken t j m op b
broken t j m op here modules b r nowhere = record {
  first = r.first;
  rest = r.rest;
  at_is = r.at_is;
  has = r.has;
  up_is = r.up_is;
  path = r.path;
  nowhere = subst (λ (x : Member). LeadsNowhere t j x b) (sym r.last_is) nowhere;
}

-- where a look finds nothing, nothing is open
pub not_opened : (t : Plan) (j : Journal) (m op : ℕ) → IsRun t j → None ≡ looked_up t j m (λ (hs : Hops). hop_by_op hs op) → IsNotOpen t j m op
not_opened t j m op run none x has same up =
    let no : None ≡ Some x.hop =
    none ∙ ap (λ (n : ℕ). looked_up t j n (λ (hs : Hops). hop_by_op hs op)) (sym same)
    ∙ look_at t j x.at has.config (λ (hs : Hops). hop_by_op hs op) has.is_module ∙ found_op t j run x has op up in
    cc

-- before anything happened nothing is open
pub nothing_open : (t : Plan) (j : Journal) (m op : ℕ) → j ≡ [] → IsNotOpen t j m op
nothing_open t j m op empty x has same up =
    let none : None ≡ Some (Open x.hop) =
    sym (finite.get-empty {X = Held} triad_cmp x.hop.opening.triad) ∙ (λ i. finite.get (state_in has.config x.at (sym empty i)).hops.held x.hop.opening.triad)
    ∙ has.stands in
    cc

-- why the next one is not found is why there is no chain
pub fault_of : (t : Plan) (j : Journal) (m op : ℕ) (here : Here) (modules : List ModuleId) (f : ChainFault) → (r : IsReached t j m op here modules)
    → IsNextFault t j (member here r.hop) f → IsChainFault t j m op f
fault_of t j m op here modules faults.NotOpen r told = absurd told
fault_of t j m op here modules (faults.Broken b) r told = broken t j m op here modules b.0 r told
fault_of t j m op here modules faults.NoMemory r told = tt

empty_list : {X : Type 0} (xs : List X) → true ≡ eqb (length xs) 0 → xs ≡ []
empty_list [] e = refl
empty_list (x ∷ xs) e = let none : length (x ∷ xs) ≡ 0 = eqb-true (length (x ∷ xs)) 0 (sym e) in absurd (omega (arith, none))

pub empty_journal : {X : Type 0} (xs j : List X) → reverse xs ≡ j → true ≡ eqb (length xs) 0 → j ≡ []
empty_journal xs j e empty = sym e ∙ ap reverse (empty_list xs empty)
