-- The index keeps finding the ports of the modules, with one more module.
use Rattle.std.proofs.Common.{◌≡◌, ℕ, suc, ◌+◌, Bool, true, false, cond, List, [], ◌∷◌, ◌++◌}
use Rattle.std.proofs.Common.{length, Option, Some, None, is_some, Ok, refl, sym, ap, ◌∙◌, arith}
use Rattle.std.specs.Prelude.{slice_get, find, option_map}
use Rattle.std.specs.Ordering.{eq_by_cmp, is_eq}
use Rattle.std.specs.Cmp.{tied_itself}
use Rattle.std.specs.FinMap.Entries as entries
use Rattle.std.specs.declared.cmp.Ordering.{Ordering}
use Rattle.std.specs.declared.cmp.Ordering.TheVariants.{Less, Equal, Greater}
use Rattle.toml.specs.Data.{Data}
use Rattle.cip_config.specs.declared.config.ModuleSettings.{ModuleSettings}
use Rattle.cip_config.specs.declared.config.PortConfig.{PortConfig}
use Rattle.cip_chassis.specs.declared.links.Link.{Link}
use Rattle.cip_chassis.specs.declared.seats.Spot.{Spot}
use Rattle.cip_chassis.specs.declared.seats.Seat.{Seat}
use Rattle.cip_chassis.specs.Plan.{AreLinks, TellsApart}
use Rattle.cip_chassis.specs.Nodes.{is_at, Node, or_later, node_from}
use Rattle.cip_chassis.specs.Seats.{spot_cmp, spot, seat_at, seated, seat_of, IsIndexOf, spot_of, seat_in, all_seated, AreFree}
use Rattle.cip_topology.specs.ModuleTables.{is_taken, settings_of}
use Rattle.cip_chassis.proofs.Ports.{found}
use Rattle.cip_chassis.proofs.WayBack.{is_there, there_is}
use Rattle.cip_chassis.proofs.Seating.{spots_total, exact_spots}
use Rattle.cip_topology.proofs.ModulesKept.{IsNew, module_new}

-- ---- one seat

-- two spots tie where the port stands at the address
tie : (link : ℕ) (address : List ℕ) (p : PortConfig) → eq_by_cmp spot_cmp (spot link address) (spot_of p) ≡ is_at link address p
tie link address p = by_both (spot_cmp (spot link address) (spot_of p)) refl (is_at link address p) refl
  where
    same_spot : is_at link address p ≡ true → spot link address ≡ spot_of p
    same_spot t = let there = is_there link address p t in λ i. record { link = sym there.0 i; address = sym there.1 i }

    tied : is_at link address p ≡ true → spot_cmp (spot link address) (spot_of p) ≡ Equal
    tied t = ap (spot_cmp (spot link address)) (sym (same_spot t)) ∙ tied_itself spots_total (spot link address)

    by_both : (r : Ordering) → spot_cmp (spot link address) (spot_of p) ≡ r → (b : Bool) → is_at link address p ≡ b → is_eq r ≡ b
    by_both Equal e true t = refl
    by_both Equal e false t =
        let same = exact_spots (spot link address) (spot_of p) e in
        let there = there_is link address p (ap (λ (s : Spot). s.link) (sym same)) (ap (λ (s : Spot). s.address) (sym same)) in
        let no : true ≡ false = sym there ∙ t in absurd (cc)
    by_both Less e true t = let no : Less ≡ Equal = sym e ∙ tied t in absurd (cc)
    by_both Less e false t = refl
    by_both Greater e true t = let no : Greater ≡ Equal = sym e ∙ tied t in absurd (cc)
    by_both Greater e false t = refl

seat_put : (at : ℕ) (p : PortConfig) (seats : List (Spot × Seat)) (link : ℕ) (address : List ℕ)
    → seat_at (seated (spot_of p) (seat_in at p) seats) link address ≡ cond (is_at link address p) (Some (seat_in at p)) (seat_at seats link address)
seat_put at p seats link address =
    entries.find-put spot_cmp spots_total (spot link address) (spot_of p) (seat_in at p) seats
    ∙ ap (λ b. cond b (Some (seat_in at p)) (seat_at seats link address)) (tie link address p)

-- ---- the seats of a module

abbrev first_seat : ℕ → Option PortConfig → Option Seat → Option Seat
first_seat at (Some p) later = Some (seat_in at p)
first_seat at None later = later

no_more : (at : ℕ) (ps : List PortConfig) (seats : List (Spot × Seat)) (link : ℕ) (address : List ℕ) (seat : Seat)
    → AreFree at ps seats → seat_at seats link address ≡ Some seat
    → find (is_at link address) ps ≡ None
no_more at [] seats link address seat free e = refl
no_more at (p ∷ ps) seats link address seat free e = by_spot (is_at link address p) refl
    (λ f. no_more at ps (seated (spot_of p) (seat_in at p) seats) link address seat free.1
    (seat_put at p seats link address ∙ ap (λ b. cond b (Some (seat_in at p)) (seat_at seats link address)) f ∙ e))
  where
    by_spot : (b : Bool) → is_at link address p ≡ b → (is_at link address p ≡ false → find (is_at link address) ps ≡ None)
        → cond b (Some p) (find (is_at link address) ps) ≡ None
    by_spot true t rest =
        let there = is_there link address p t in
        let no : Some seat ≡ None = sym e ∙ (λ i. seat_at seats (sym there.0 i) (sym there.1 i)) ∙ free.0 in absurd (cc)
    by_spot false t rest = rest t

all_found : (at : ℕ) (ps : List PortConfig) (seats : List (Spot × Seat)) (link : ℕ) (address : List ℕ) → AreFree at ps seats
    → seat_at (all_seated at ps seats) link address ≡ first_seat at (find (is_at link address) ps) (seat_at seats link address)
all_found at [] seats link address free = refl
all_found at (p ∷ ps) seats link address free =
    all_found at ps (seated (spot_of p) (seat_in at p) seats) link address free.1
    ∙ ap (first_seat at (find (is_at link address) ps)) (seat_put at p seats link address)
    ∙ by_spot (is_at link address p) refl
  where
    by_spot : (b : Bool) → is_at link address p ≡ b
        → first_seat at (find (is_at link address) ps) (cond b (Some (seat_in at p)) (seat_at seats link address))
        ≡ first_seat at (cond b (Some p) (find (is_at link address) ps)) (seat_at seats link address)
    by_spot true t =
        let here : seat_at (seated (spot_of p) (seat_in at p) seats) link address ≡ Some (seat_in at p) =
        seat_put at p seats link address ∙ ap (λ b. cond b (Some (seat_in at p)) (seat_at seats link address)) t in
        ap (λ (o : Option PortConfig). first_seat at o (Some (seat_in at p)))
        (no_more at ps (seated (spot_of p) (seat_in at p) seats) link address (seat_in at p) free.1 here)
    by_spot false t = refl

below_suc : (i j : ℕ) → suc i ≡ suc j → i ≡ j
below_suc i j e = omega arith

not_zero : (i : ℕ) → suc i ≡ 0 → ⊥
not_zero i e = omega arith

are_free : (at : ℕ) (ps : List PortConfig) (seats : List (Spot × Seat))
    → ((i : ℕ) (p : PortConfig) → slice_get ps i ≡ Some p → seat_at seats p.link p.address ≡ None) → TellsApart spot_of ps
    → AreFree at ps seats
are_free at [] seats each alone = tt
are_free at (p ∷ ps) seats each alone = (
  each 0 p refl,
  are_free at ps (seated (spot_of p) (seat_in at p) seats) later
      (λ i j a b at_a at_b e. below_suc i j (alone (suc i) (suc j) a b at_a at_b e)),
)
  where
    by_spot : (i : ℕ) (q : PortConfig) → slice_get ps i ≡ Some q → (b : Bool) → is_at q.link q.address p ≡ b
        → cond b (Some (seat_in at p)) (seat_at seats q.link q.address) ≡ None
    by_spot i q at_q true t =
        let there = is_there q.link q.address p t in
        absurd (not_zero i (alone (suc i) 0 q p at_q refl (λ j. record { link = sym there.0 j; address = sym there.1 j })))
    by_spot i q at_q false t = each (suc i) q at_q

    later : (i : ℕ) (q : PortConfig) → slice_get ps i ≡ Some q → seat_at (seated (spot_of p) (seat_in at p) seats) q.link q.address ≡ None
    later i q at_q = seat_put at p seats q.link q.address ∙ by_spot i q at_q (is_at q.link q.address p) refl

-- ---- one more module

untaken : (modules : List ModuleSettings) (link : ℕ) (address : List ℕ) → is_taken modules link address ≡ false → node_from 0 modules link address ≡ None
untaken modules link address h = by_node (node_from 0 modules link address) h
  where
    by_node : (o : Option Node) → is_some o ≡ false → o ≡ None
    by_node None e = refl
    by_node (Some n) e = absurd (cc)

pub free_ports : (number : ℕ) (links : List Link) (modules : List ModuleSettings) (seats : List (Spot × Seat)) (d : Data) (c : ModuleSettings)
    → AreLinks links → IsIndexOf modules seats
    → settings_of number links modules d ≡ Ok c → AreFree (length modules) c.ports seats
free_ports number links modules seats d c are index h =
    let n = module_new number links modules d c are h in
    are_free (length modules) c.ports seats
    (λ i p at. index p.link p.address ∙ ap (option_map seat_of) (untaken modules p.link p.address (n.ports.free i p at))) n.ports.alone

node_old : (i : ℕ) (cs : List ModuleSettings) (c : ModuleSettings) (link : ℕ) (address : List ℕ) (n : Node) → node_from i cs link address ≡ Some n
    → node_from i (cs ++ c ∷ []) link address ≡ Some n
node_old i [] c link address n e = absurd (cc)
node_old i (b ∷ cs) c link address n e = by_port (λ s. node_old (i + 1) cs c link address n s) (find (is_at link address) b.ports) e
  where
    by_port : (node_from (i + 1) cs link address ≡ Some n → node_from (i + 1) (cs ++ c ∷ []) link address ≡ Some n) → (o : Option PortConfig)
        → or_later i o (node_from (i + 1) cs link address) ≡ Some n → or_later i o (node_from (i + 1) (cs ++ c ∷ []) link address) ≡ Some n
    by_port rest None s = rest s
    by_port rest (Some p) s = s

node_new : (i : ℕ) (cs : List ModuleSettings) (c : ModuleSettings) (link : ℕ) (address : List ℕ) → node_from i cs link address ≡ None
    → node_from i (cs ++ c ∷ []) link address ≡ or_later (i + length cs) (find (is_at link address) c.ports) None
node_new i [] c link address e = ap (λ (k : ℕ). or_later k (find (is_at link address) c.ports) None) (omega arith)
node_new i (b ∷ cs) c link address e =
    by_port (λ s. node_new (i + 1) cs c link address s) (find (is_at link address) b.ports) e
    ∙ ap (λ (k : ℕ). or_later k (find (is_at link address) c.ports) None) (omega arith)
  where
    by_port : (node_from (i + 1) cs link address ≡ None
        → node_from (i + 1) (cs ++ c ∷ []) link address ≡ or_later ((i + 1) + length cs) (find (is_at link address) c.ports) None)
        → (o : Option PortConfig) → or_later i o (node_from (i + 1) cs link address) ≡ None
        → or_later i o (node_from (i + 1) (cs ++ c ∷ []) link address) ≡ or_later ((i + 1) + length cs) (find (is_at link address) c.ports) None
    by_port rest None s = rest s
    by_port rest (Some p) s = absurd (cc)

pub index_push : (number : ℕ) (links : List Link) (modules : List ModuleSettings) (seats : List (Spot × Seat)) (d : Data) (c : ModuleSettings)
    → AreLinks links → IsIndexOf modules seats
    → settings_of number links modules d ≡ Ok c → IsIndexOf (modules ++ c ∷ []) (all_seated (length modules) c.ports seats)
index_push number links modules seats d c are index h link address =
    all_found (length modules) c.ports seats link address (free_ports number links modules seats d c are index h)
    ∙ ap (first_seat (length modules) (find (is_at link address) c.ports)) (index link address)
    ∙ by_node (node_from 0 modules link address) refl
  where
    new : IsNew links modules c
    new = module_new number links modules d c are h

    by_old : (n : Node) → node_from 0 modules link address ≡ Some n → (o : Option PortConfig) → find (is_at link address) c.ports ≡ o
        → first_seat (length modules) o (Some (seat_of n)) ≡ Some (seat_of n)
    by_old n e None f = refl
    by_old n e (Some p) f =
        let at = found (is_at link address) c.ports p f in
        let there = is_there link address p at.passes in
        let free = new.ports.free at.place p at.at in
        let no : true ≡ false = ap (λ (x : Option Node). is_some x) (sym e) ∙ (λ i. is_taken modules (sym there.0 i) (sym there.1 i)) ∙ free in absurd (cc)

    by_new : (o : Option PortConfig) → first_seat (length modules) o None ≡ option_map seat_of (or_later (0 + length modules) o None)
    by_new None = refl
    by_new (Some p) = ap (λ (k : ℕ). Some (seat_in k p)) (omega arith)

    by_node : (o : Option Node) → node_from 0 modules link address ≡ o
        → first_seat (length modules) (find (is_at link address) c.ports) (option_map seat_of o)
        ≡ option_map seat_of (node_from 0 (modules ++ c ∷ []) link address)
    by_node (Some n) e =
        by_old n e (find (is_at link address) c.ports) refl
        ∙ ap (option_map seat_of) (sym (node_old 0 modules c link address n e))
    by_node None e =
        by_new (find (is_at link address) c.ports)
        ∙ ap (option_map seat_of) (sym (node_new 0 modules c link address e))
