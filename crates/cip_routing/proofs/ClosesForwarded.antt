-- When a Forward_Close goes on: the connection that it closes, and what is left of its path.
use Rattle.std.proofs.Common.{◌≡◌, ◌≤◌, ℕ, Bool, true, false, eqb, ◌&&◌, is_some, List, refl, sym, ap, ◌∙◌, Option, Some, None}
use Rattle.std.specs.Str.{bytes_eq}
use Rattle.std.proofs.lemmas.Bool.{eqb-true}
use Rattle.std.proofs.lemmas.Slice.Eq.{bytes_eq-Decides}
use Rattle.cip_segment.specs.Reading.{HopAt, hop_of}
use Rattle.cip_close.specs.Close.{Close}
use Rattle.cip_pending.specs.declared.entry.UpSide.{UpSide}
use Rattle.cip_pending.specs.Pendings.{Pendings}
use Rattle.cip_hops.specs.declared.opening.HopDown.{HopDown}
use Rattle.cip_hops.specs.declared.opening.HopDown.TheVariants.{Link as DownLink, End}
use Rattle.cip_hops.specs.declared.hop.Hop.{Hop}
use Rattle.cip_hops.specs.Hops.{hop_at}
use Rattle.cip_routing.specs.declared.refusals.LinkRefusal.{LinkRefusal}
use Rattle.cip_routing.specs.declared.refusals.CloseRefusal.TheVariants.{NotThisSendersOpenTriad, PathDiffersFromTheHops, NotSentOn}
use Rattle.cip_routing.specs.Links.{wait_refusal}
use Rattle.cip_routing.specs.CloseRows.{CloseRow, Refuses, Forwarded, ClosedAtTheEnd, is_sender, wait_row, below_row, down_row, triad_row, close_row}
use Rattle.cip_routing.specs.State.{State}
use Rattle.cip_routing.proofs.Conditions.{past, past_not}
use Rattle.cip_routing.proofs.SendsForwarded.{wait_ticks}

-- ---- a close that is done

-- the connection of its triad is open, and its up side asks
triad_stands : (p : Pendings) (sender : UpSide) (c : Close) (x : Option Hop) (row : CloseRow) → triad_row p sender c x ≡ row
    → (Refuses NotThisSendersOpenTriad ≡ row → ⊥)
    → (hop : Hop) × (x ≡ Some hop) × (is_sender sender hop.opening.up ≡ true) × (down_row p c hop.opening.down ≡ row)
triad_stands p sender c None row e never = absurd (never e)
triad_stands p sender c (Some hop) row e never =
    let tested = past_not (is_sender sender hop.opening.up) (Refuses NotThisSendersOpenTriad) (down_row p c hop.opening.down) row e never in
    (hop, refl, tested.0, tested.1)

pub close_stands : (s : State) (sender : UpSide) (c : Close) (row : CloseRow) → close_row s sender c ≡ row → (Refuses NotThisSendersOpenTriad ≡ row → ⊥)
    → (hop : Hop) × (hop_at s.hops c.fields.triad ≡ Some hop) × (is_sender sender hop.opening.up ≡ true) × (down_row s.pendings c hop.opening.down ≡ row)
unfolding close_row
close_stands s sender c row e never = triad_stands s.pendings sender c (hop_at s.hops c.fields.triad) row e never

-- ---- a close that goes on

both_true : (a b : Bool) → (a && b) ≡ true → (a ≡ true) × (b ≡ true)
both_true true b e = (refl, e)
both_true false b e = absurd (cc)

abbrev pub GoesOn : Close → HopDown → ℕ → List ℕ → List ℕ → Type 0
GoesOn c down port address rest =
    (next : HopAt) × (down ≡ DownLink port address) × (hop_of c.path ≡ Some next) × (port ≡ next.port) × (address ≡ next.address) × (rest ≡ next.rest)
    × (2 ≤ c.fields.timing.ticks)

wait_forwards : (p : Pendings) (c : Close) (own : ℕ) (there : List ℕ) (next : HopAt) (x : Option LinkRefusal) (port : ℕ) (address rest : List ℕ)
    → hop_of c.path ≡ Some next → next.port ≡ own → next.address ≡ there → wait_refusal p c.fields.timing ≡ x
    → wait_row own there next.rest x ≡ Forwarded port address rest
    → GoesOn c (DownLink own there) port address rest
wait_forwards p c own there next (Some fault) port address rest first q a r e =
    absurd (let other : Refuses (NotSentOn fault) ≡ Forwarded port address rest = e in cc)
wait_forwards p c own there next None port address rest first q a r e =
    let same : Forwarded own there next.rest ≡ Forwarded port address rest = e in
    let port_is : own ≡ port = cc in
    let address_is : there ≡ address = cc in
    let rest_is : rest ≡ next.rest = cc in (
      next,
      ap (λ n. DownLink n there) port_is ∙ ap (DownLink port) address_is,
      first,
      sym port_is ∙ sym q,
      sym address_is ∙ sym a,
      rest_is,
      wait_ticks p c.fields.timing r,
    )

below_forwards : (p : Pendings) (c : Close) (own : ℕ) (there : List ℕ) (x : Option HopAt) (port : ℕ) (address rest : List ℕ)
    → hop_of c.path ≡ x → below_row p c own there x ≡ Forwarded port address rest → GoesOn c (DownLink own there) port address rest
below_forwards p c own there None port address rest first e = absurd (cc)
below_forwards p c own there (Some next) port address rest first e =
    let waits = wait_row own there next.rest (wait_refusal p c.fields.timing) in
    let tested = past_not (eqb next.port own && bytes_eq next.address there) (Refuses PathDiffersFromTheHops) waits (Forwarded port address rest) e
    (λ other. cc) in
    let both = both_true (eqb next.port own) (bytes_eq next.address there) tested.0 in
    wait_forwards p c own there next (wait_refusal p c.fields.timing) port address rest first (eqb-true next.port own both.0)
    ((bytes_eq-Decides next.address there).0 both.1) refl tested.1

pub down_forwards : (p : Pendings) (c : Close) (down : HopDown) (port : ℕ) (address rest : List ℕ) → down_row p c down ≡ Forwarded port address rest
    → GoesOn c down port address rest
down_forwards p c (DownLink own there) port address rest e = below_forwards p c own there (hop_of c.path) port address rest refl e
down_forwards p c (End config consume produce) port address rest e =
    let tested = past (is_some (hop_of c.path)) (Refuses PathDiffersFromTheHops) ClosedAtTheEnd (Forwarded port address rest) e (λ other. cc) in
    absurd (let other : ClosedAtTheEnd ≡ Forwarded port address rest = tested.1 in cc)

-- what is left of its path
pub close_forwards : (s : State) (sender : UpSide) (c : Close) (port : ℕ) (address rest : List ℕ) → close_row s sender c ≡ Forwarded port address rest
    → (next : HopAt) × (hop_of c.path ≡ Some next) × (rest ≡ next.rest) × (2 ≤ c.fields.timing.ticks)
close_forwards s sender c port address rest e =
    let h = close_stands s sender c (Forwarded port address rest) e (λ other. cc) in
    let g = down_forwards s.pendings c h.0.opening.down port address rest h.3 in
    (g.0, g.2, g.5, g.6)
