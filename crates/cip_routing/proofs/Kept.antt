-- That the tables of a module fit one another after each effect.
use Rattle.std.proofs.Common.{◌≡◌, ℕ, ◌+◌, true, false, cond, refl, sym, ap, subst, ◌∙◌, arith, Option, Some, None, is_some, List, [], ◌∷◌, eqb, ltb, ◌||◌}
use Rattle.std.specs.Prelude.{option_and_then, nat_le, nat_lt}
use Rattle.std.specs.FinMap as map
use Rattle.std.specs.FinMap.{FinMap, empty}
use Rattle.std.specs.declared.cmp.Ordering.{Ordering}
use Rattle.cip_base.specs.Triads.{triad_cmp}
use Rattle.cip_base.specs.declared.triad.Triad.{Triad}
use Rattle.cip_pending.specs.Kinds.{opened_triad}
use Rattle.cip_pending.specs.declared.entry.Entry.{Entry}
use Rattle.cip_pending.specs.Pendings.{Pendings, added, without, IsWithin as IsPendings}
use Rattle.cip_base.specs.Counts.{counts_given}
use Rattle.cip_hops.specs.declared.opening.Opening.{Opening}
use Rattle.cip_hops.specs.declared.hop.Held.{Held}
use Rattle.cip_hops.specs.declared.hop.Held.TheVariants.{Opening as IsOpening, Open}
use Rattle.cip_hops.specs.declared.opening.HopDown.{HopDown}
use Rattle.cip_hops.specs.declared.opening.HopDown.TheVariants.{Link as DownLink, End}
use Rattle.cip_hops.specs.declared.opening.OwnIds.{OwnIds}
use Rattle.cip_hops.specs.declared.opening.BeginReason.TheVariants.{Duplicate, Full, IdsSpent}
use Rattle.cip_hops.specs.declared.hop.Hop.{Hop}
use Rattle.cip_hops.specs.declared.hop.Side.{Side}
use Rattle.cip_hops.specs.declared.hop.Side.TheVariants.{Up, Down}
use Rattle.cip_hops.specs.Sides.{op_of, own_ids, ids_drawn, down_is_link}
use Rattle.cip_hops.specs.Hops.{Hops, begun, finished, opened, with_hop, refusal, opening_at, held_op_of, as_opening}
use Rattle.cip_hops.specs.Hops as hops
use Rattle.cip_hops.proofs.Changes.{finished_is}
use Rattle.cip_target.specs.Ends.{Ends}
use Rattle.cip_config.specs.declared.config.ModuleSettings.{ModuleSettings}
use Rattle.cip_routing.specs.Code.Fit.{Fit, writes_of}
use Rattle.cip_routing.specs.Effects.{abandoned, abandoned_if, given_up_of}
use Rattle.cip_routing.specs.OpenRows.{writes_to}
use Rattle.cip_routing.specs.Paired.{IsAwaited, IsOther}
use Rattle.cip_routing.specs.State.{is_spent, spent_with}
use Rattle.cip_routing.proofs.Fits.{Becomes, becomes_put, becomes_gone, spent_becomes, links_becomes, owned_becomes, paired_becomes, paired_begun, paired_ended}
use Rattle.cip_routing.proofs.Fits.{paired_added, paired_dropped}

-- what was spent stays spent, and the op is spent now
pub spent_now : (op : ℕ) (ops : List ℕ) → is_spent op (spent_with op ops) ≡ true
spent_now op [] = grind (arith)
spent_now op (x ∷ ops) = elim (ltb op x) as (λ b. is_spent op (cond b (op ∷ x ∷ ops) (x ∷ spent_with op ops)) ≡ true) [
  | true ↦ grind (arith)
  | false ↦ ap (λ b. eqb x op || b) (spent_now op ops) ∙ grind (arith)
]

pub spent_still : (op new : ℕ) (ops : List ℕ) → is_spent op ops ≡ true → is_spent op (spent_with new ops) ≡ true
spent_still op new [] e = absurd (cc)
spent_still op new (x ∷ ops) e = elim (ltb new x) as (λ b. is_spent op (cond b (new ∷ x ∷ ops) (x ∷ spent_with new ops)) ≡ true) [
  | true ↦ ap (λ b. eqb new op || b) e ∙ grind (arith)
  | false ↦ elim (eqb x op) as (λ b. b || is_spent op ops ≡ true → b || is_spent op (spent_with new ops) ≡ true) [
    | true ↦ λ s. refl
    | false ↦ λ s. spent_still op new ops s
  ] e
]

pub fit_spent : (config : ModuleSettings) (p : Pendings) (h : Hops) (t : Ends) (ops new : List ℕ) (op : ℕ) → Fit config p h t ops → new ≡ spent_with op ops
    → Fit config p h t new
fit_spent config p h t ops new op f e = record {
  identity = f.identity;
  pending_room = f.pending_room;
  hop_room = f.hop_room;
  paired = f.paired;
  spent = λ q x o at named. ap (is_spent o) e ∙ spent_still o op ops (f.spent q x o at named);
  links = f.links;
  owned = f.owned;
}

no_entry : {K X : Type 0} {R : K → K → Ordering} (m : FinMap R X) (k : K) (x : X) → m ≡ empty → map.get m k ≡ Some x → ⊥
no_entry {R = R} m k x e at = let no : None ≡ Some x = sym (ap (λ n. map.get n k) e ∙ map.get-empty R k) ∙ at in cc

nothing : (h : Hops) (q : Triad) → h.held ≡ empty → map.get h.held q ≡ None
nothing h q e = ap (λ m. map.get m q) e ∙ map.get-empty triad_cmp q

-- as a module begins
pub fresh_fit : (config : ModuleSettings) (p : Pendings) (h : Hops) (t : Ends) (ops : List ℕ) → p.entries ≡ empty → h.held ≡ empty → t.owners ≡ empty
    → t.objects.identity ≡ config.identity → p.room ≡ config.pending_room → h.room ≡ config.hop_room → Fit config p h t ops
fresh_fit config p h t ops no_pendings no_hops no_owners identity pending_room hop_room = record {
  identity = identity;
  pending_room = pending_room;
  hop_room = hop_room;
  paired = record {
    each = λ q n a. absurd (no_entry p.entries n a.entry no_pendings a.waits);
    one = λ q m n a b. absurd (no_entry p.entries m a.entry no_pendings a.waits);
    only = λ q e none. let no : false ≡ true = sym (ap (λ x. is_some (option_and_then as_opening x)) (nothing h q no_hops)) ∙ e in cc;
  };
  spent = λ q x op at named. absurd (no_entry h.held q x no_hops at);
  links = λ q o e. let no : None ≡ Some o = sym (ap (option_and_then as_opening) (nothing h q no_hops)) ∙ e in absurd (cc);
  owned = record {
    owner = λ q i size e sized. absurd (no_entry t.owners i q no_owners e);
    writer = λ q i size w e pos. let no : false ≡ true = sym (ap (λ x. writes_of x i) (nothing h q no_hops)) ∙ w in absurd (cc);
  };
}

-- ---- the pendings

none_if : {X : Type 0} (o : Option X) → ((x : X) → o ≡ Some x → ⊥) → o ≡ None
none_if None never = refl
none_if (Some x) never = absurd (never x refl)

-- the next number is new
pub fresh_number : (p : Pendings) → IsPendings p → map.get p.entries p.next ≡ None
fresh_number p w = none_if (map.get p.entries p.next) (λ entry e. let below = w.below p.next entry e in omega (arith, below))

pub fit_forwards : (config : ModuleSettings) (p after : Pendings) (h : Hops) (t : Ends) (ops : List ℕ) (entry : Entry)
    → Fit config p h t ops → IsPendings p → after ≡ added p entry → IsOther entry.kind → Fit config after h t ops
fit_forwards config p after h t ops entry f w e other = record {
  identity = f.identity;
  pending_room = ap (λ (y : Pendings). y.room) e ∙ f.pending_room;
  hop_room = f.hop_room;
  paired = paired_added p after h p.next entry f.paired (fresh_number p w) (ap (λ (x : Pendings). x.entries) e) other;
  spent = f.spent;
  links = f.links;
  owned = f.owned;
}

-- ---- an opening

pub free_if : (h : Hops) (triad : Triad) (ids : ℕ) → refusal h triad ids ≡ None → map.get h.held triad ≡ None
free_if h triad ids e = elim (map.get h.held triad) as (λ g. cond (is_some g) (Some Duplicate)
    (cond (nat_le h.room (map.len h.held)) (Some Full) (cond (nat_lt 65535 (counts_given h.next + ids)) (Some IdsSpent) None)) ≡ None → g ≡ None) [
      | None ↦ λ s. refl
      | Some x ↦ λ s. absurd (cc)
    ] e

some_opening : (o q : Opening) → Some o ≡ Some q → o ≡ q
some_opening o q e = cc

some_held : (x y : Held) → Some x ≡ Some y → x ≡ y
some_held x y e = cc

pub fit_begins : (config : ModuleSettings) (p after : Pendings) (h new : Hops) (t : Ends) (ops : List ℕ) (entry : Entry) (o : Opening)
    → Fit config p h t ops → IsPendings p → after ≡ added p entry → new ≡ begun h o → opened_triad entry.kind ≡ Some o.triad → down_is_link o.down ≡ true
    → ((op : ℕ) → op_of o.up ≡ Some op → is_spent op ops ≡ true) → refusal h o.triad (ids_drawn o) ≡ None → Fit config after new t ops
fit_begins config p after h new t ops entry o f w e g kind link spent room =
    let x : Held = IsOpening o (own_ids h.next o) in
    let b : Becomes h new o.triad (Some x) = becomes_put h new o.triad x (ap (λ (y : Hops). y.held) g) in
    let free = free_if h o.triad (ids_drawn o) room in
    record {
      identity = f.identity;
      pending_room = ap (λ (y : Pendings). y.room) e ∙ f.pending_room;
      hop_room = ap (λ (y : Hops). y.room) g ∙ f.hop_room;
      paired = paired_begun h new o.triad (Some x) b p after p.next entry f.paired (ap (option_and_then as_opening) free) refl (fresh_number p w)
          (ap (λ (y : Pendings). y.entries) e) kind;
      spent = spent_becomes h new o.triad (Some x) b ops f.spent (λ y op at named. spent op (ap held_op_of (some_held x y at) ∙ named));
      links = links_becomes h new o.triad (Some x) b f.links (λ q at. ap (λ (z : Opening). down_is_link z.down) (sym (some_opening o q at)) ∙ link);
      owned = owned_becomes h new o.triad (Some x) b t.objects.assemblies t.owners f.owned (λ i. ap (λ g. writes_of g i) (sym free));
    }

-- a link writes no assembly, and what is opening writes none
link_writes : (down : HopDown) (i : ℕ) → down_is_link down ≡ true → writes_to i down ≡ false
link_writes (DownLink port address) i e = refl
link_writes (End config consume produce) i e = absurd (cc)

opening_writes : (x : Option Held) (i : ℕ) → is_some (option_and_then as_opening x) ≡ true → writes_of x i ≡ false
opening_writes None i e = absurd (cc)
opening_writes (Some (IsOpening o ids)) i e = refl
opening_writes (Some (Open hop)) i e = absurd (cc)

-- ---- what was opening is open

pub fit_finishes : (config : ModuleSettings) (p after : Pendings) (h new : Hops) (t : Ends) (ops : List ℕ) (n their_id now : ℕ) (triad : Triad) (o : Opening)
    (ids : OwnIds)
    → Fit config p h t ops → IsAwaited p triad n → after ≡ without p n → map.get h.held triad ≡ Some (IsOpening o ids) → new ≡ finished h triad their_id now
    → Fit config after new t ops
fit_finishes config p after h new t ops n their_id now triad o ids f a e at g =
    let x : Held = Open (opened o ids their_id now) in
    let is : new ≡ with_hop h triad (opened o ids their_id now) = g ∙ finished_is h triad their_id now o ids at in
    let b : Becomes h new triad (Some x) = becomes_put h new triad x (ap (λ (y : Hops). y.held) is) in
    let link : down_is_link o.down ≡ true = f.links triad o (ap (option_and_then as_opening) at) in
    record {
      identity = f.identity;
      pending_room = ap (λ (y : Pendings). y.room) e ∙ f.pending_room;
      hop_room = ap (λ (y : Hops). y.room) is ∙ f.hop_room;
      paired = paired_ended h new triad (Some x) b p after n f.paired a refl (ap (λ (y : Pendings). y.entries) e);
      spent = spent_becomes h new triad (Some x) b ops f.spent
          (λ y op is named. f.spent triad (IsOpening o ids) op at (ap held_op_of (some_held x y is) ∙ named));
      links = links_becomes h new triad (Some x) b f.links (λ q none. let no : None ≡ Some q = none in absurd (cc));
      owned = owned_becomes h new triad (Some x) b t.objects.assemblies t.owners f.owned (λ i. link_writes o.down i link ∙ ap (λ g. writes_of g i) (sym at));
    }

-- ---- what was opening is given up

same_hops : (config : ModuleSettings) (p after : Pendings) (h new : Hops) (t : Ends) (ops : List ℕ) (n : ℕ) (entry : Entry)
    → Fit config p h t ops → map.get p.entries n ≡ Some entry → after ≡ without p n → IsOther entry.kind → new ≡ h → Fit config after new t ops
same_hops config p after h new t ops n entry f at e other g =
    let kept : Fit config after h t ops = record {
      identity = f.identity;
      pending_room = ap (λ (y : Pendings). y.room) e ∙ f.pending_room;
      hop_room = f.hop_room;
      paired = paired_dropped p after h n entry f.paired at (ap (λ (y : Pendings). y.entries) e) other;
      spent = f.spent;
      links = f.links;
      owned = f.owned;
    } in
    subst (λ (x : Hops). Fit config after x t ops) (sym g) kept

opening_gone : (config : ModuleSettings) (p after : Pendings) (h new : Hops) (t : Ends) (ops : List ℕ) (n : ℕ) (triad : Triad)
    → Fit config p h t ops → IsAwaited p triad n → after ≡ without p n → new ≡ abandoned h triad → Fit config after new t ops
opening_gone config p after h new t ops n triad f a e g =
    let some : is_some (opening_at h triad) ≡ true = f.paired.each triad n a in
    let is : new ≡ hops.without h triad = g ∙ ap (λ b. cond b (hops.without h triad) h) some in
    let b : Becomes h new triad None = becomes_gone h new triad (ap (λ (y : Hops). y.held) is) in
    record {
      identity = f.identity;
      pending_room = ap (λ (y : Pendings). y.room) e ∙ f.pending_room;
      hop_room = ap (λ (y : Hops). y.room) is ∙ f.hop_room;
      paired = paired_ended h new triad None b p after n f.paired a refl (ap (λ (y : Pendings). y.entries) e);
      spent = spent_becomes h new triad None b ops f.spent (λ y op none named. absurd (cc));
      links = links_becomes h new triad None b f.links (λ q none. absurd (cc));
      owned = owned_becomes h new triad None b t.objects.assemblies t.owners f.owned (λ i. sym (opening_writes (map.get h.held triad) i some));
    }

by_opening : (config : ModuleSettings) (p after : Pendings) (h new : Hops) (t : Ends) (ops : List ℕ) (n : ℕ) (entry : Entry) (opened : Option Triad)
    → opened_triad entry.kind ≡ opened
    → Fit config p h t ops → map.get p.entries n ≡ Some entry → after ≡ without p n → new ≡ abandoned_if opened h → Fit config after new t ops
by_opening config p after h new t ops n entry None k f at e g = same_hops config p after h new t ops n entry f at e k g
by_opening config p after h new t ops n entry (Some triad) k f at e g =
    opening_gone config p after h new t ops n triad f (record { entry = entry; waits = at; kind = k }) e g

pub fit_gives_up : (config : ModuleSettings) (p after : Pendings) (h new : Hops) (t : Ends) (ops : List ℕ) (n : ℕ) (entry : Entry)
    → Fit config p h t ops → map.get p.entries n ≡ Some entry → after ≡ without p n → new ≡ given_up_of entry.kind h → Fit config after new t ops
fit_gives_up config p after h new t ops n entry f at e g = by_opening config p after h new t ops n entry (opened_triad entry.kind) refl f at e g

-- ---- a connection changes in its place

pub fit_changes : (config : ModuleSettings) (p : Pendings) (h new : Hops) (t : Ends) (ops : List ℕ) (triad : Triad) (hop other : Hop)
    → Fit config p h t ops → map.get h.held triad ≡ Some (Open hop) → new ≡ with_hop h triad other → other.opening ≡ hop.opening → Fit config p new t ops
fit_changes config p h new t ops triad hop other f at g same =
    let b : Becomes h new triad (Some (Open other)) = becomes_put h new triad (Open other) (ap (λ (y : Hops). y.held) g) in
    record {
      identity = f.identity;
      pending_room = f.pending_room;
      hop_room = ap (λ (y : Hops). y.room) g ∙ f.hop_room;
      paired = paired_becomes h new triad (Some (Open other)) b p f.paired (ap (λ x. is_some (option_and_then as_opening x)) (sym at));
      spent = spent_becomes h new triad (Some (Open other)) b ops f.spent
          (λ y op is named. f.spent triad (Open hop) op at (ap (λ (o : Opening). op_of o.up) (sym same) ∙ ap held_op_of (some_held (Open other) y is) ∙ named));
      links = links_becomes h new triad (Some (Open other)) b f.links (λ q none. absurd (cc));
      owned = owned_becomes h new triad (Some (Open other)) b t.objects.assemblies t.owners f.owned
          (λ i. ap (λ (o : Opening). writes_to i o.down) same ∙ ap (λ x. writes_of x i) (sym at));
    }

-- any change that keeps what was opened
pub fit_changed : (config : ModuleSettings) (p : Pendings) (h new : Hops) (t : Ends) (ops : List ℕ) (triad : Triad) (change : Hop → Hop)
    → Fit config p h t ops → ((hop : Hop) → (change hop).opening ≡ hop.opening) → new ≡ hops.changed h triad change → Fit config p new t ops
fit_changed config p h new t ops triad change f keeps e =
    elim (map.get h.held triad) as (λ x. map.get h.held triad ≡ x → Fit config p new t ops) [
      | None ↦ λ at. subst (λ (y : Hops). Fit config p y t ops) (sym (e ∙ ap (λ x. hops.change_in h triad change (option_and_then hops.as_hop x)) at)) f
      | Some (IsOpening o ids) ↦ λ at. subst (λ (y : Hops). Fit config p y t ops)
          (sym (e ∙ ap (λ x. hops.change_in h triad change (option_and_then hops.as_hop x)) at)) f
      | Some (Open hop) ↦ λ at. fit_changes config p h new t ops triad hop (change hop) f at
          (e ∙ ap (λ x. hops.change_in h triad change (option_and_then hops.as_hop x)) at) (keeps hop)
    ] refl

pub touched_keeps : (side : Side) (now : ℕ) (hop : Hop) → (hops.touched side now hop).opening ≡ hop.opening
touched_keeps Up now hop = refl
touched_keeps Down now hop = refl

pub counted_keeps : (side : Side) (count : ℕ) (hop : Hop) → (hops.counted side count hop).opening ≡ hop.opening
counted_keeps Up count hop = refl
counted_keeps Down count hop = refl
