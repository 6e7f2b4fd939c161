-- An open as it came: where its path stands, and what closing it up leaves.
use Rattle.std.proofs.Common.{◌≡◌, ℕ, Bool, true, false, ◌+◌, ◌≤◌, List, ◌++◌, length, take, drop, get_or, Some, refl, ap, subst, ◌∙◌, arith}
use Rattle.std.specs.Prelude.{MatchResult, Result}
use Rattle.cip_base.specs.Fields.{IsBytes}
use Rattle.cip_segment.specs.Reading.{HopAt, hop_of}
use Rattle.cip_message.specs.declared.fault.DataFault.{DataFault}
use Rattle.cip_message.specs.Manager.{manager_bytes}
use Rattle.cip_message.proofs.Receiveds.{Placed, placed}
use Rattle.cip_open.specs.Kinds.{open_service, open_fixed_part}
use Rattle.cip_open.specs.Open.{Open, open_with, open_layout, ReadsOpen, IsOpenFault}
use Rattle.cip_open.specs.GoesOn.{IsOpenGoingOn}
use Rattle.cip_open.proofs.Opens.{open_verdict, layout_path, layout_long}
use Rattle.cip_rewrite.specs.LeadsOn.{LeadsOn}
use Rattle.cip_rewrite.proofs.Paths.{start_of, leads_on}

pub record CameOpen (b : List ℕ) (o : Open) (hop : HopAt) : Type 0 where
  pub two : 2 ≤ length b
  pub service : get_or b 0 0 ≡ open_service o.fields.large
  pub on : LeadsOn b (start_of b) (open_fixed_part o.fields.large) hop
  pub x : ℕ
  pub y : ℕ
  pub z : ℕ
  pub words : ℕ
  pub cut : manager_bytes (get_or b 0 0) (take (open_fixed_part o.fields.large) (drop (start_of b) b) ++ hop.rest)
      ≡ manager_bytes (open_service o.fields.large) (open_layout o.fields.large x y z words (open_with o.fields hop.rest))

layout_cut : (large : Bool) (x y z n : ℕ) (o : Open) (rest : List ℕ)
    → take (open_fixed_part large) (open_layout large x y z n o) ++ rest ≡ open_layout large x y z n (open_with o.fields rest)
layout_cut true x y z n o rest = refl
layout_cut false x y z n o rest = refl

pub message_long : (s : ℕ) (large : Bool) (x y z n : ℕ) (o : Open)
    → length (manager_bytes s (open_layout large x y z n o)) ≡ 6 + (open_fixed_part large + length o.path)
message_long s large x y z n o = omega (arith, layout_long large x y z n o)

laid : (b d : List ℕ) (o : Open) (hop : HopAt) → Placed (open_service o.fields.large) d b → hop_of o.path ≡ Some hop → ReadsOpen o.fields.large d o
    → CameOpen b o hop
laid b d o hop p leads (readable, (x, y, z, n, len, e, is)) =
    let large = o.fields.large in
    let fixed = open_fixed_part large in
    let path_is : drop fixed d ≡ o.path = ap (λ (t : List ℕ). drop fixed t) e ∙ layout_path large x y z n o in
    let long : length d ≡ fixed + length o.path = ap (λ (t : List ℕ). length t) e ∙ layout_long large x y z n o in record {
      two = p.two;
      service = p.service_is;
      on = leads_on b d (start_of b) fixed o.path hop p.header (omega (arith, p.len, long)) p.data_is path_is p.fits readable leads;
      x = x;
      y = y;
      z = z;
      words = n;
      cut =
          ap (λ (s : ℕ). manager_bytes s (take fixed (drop (start_of b) b) ++ hop.rest)) p.service_is
          ∙ ap (λ (t : List ℕ). manager_bytes (open_service large) (take fixed t ++ hop.rest)) (p.data_is ∙ e)
          ∙ ap (λ (t : List ℕ). manager_bytes (open_service large) t) (layout_cut large x y z n o hop.rest);
    }

pub came_open : (b : List ℕ) (o : Open) (hop : HopAt) → IsBytes b → IsOpenGoingOn b o hop → CameOpen b o hop
came_open b o hop fits g =
    let large = o.fields.large in
    let p = placed (open_service large) g.data_ b fits g.request in
    let reads : ReadsOpen large g.data_ o =
    subst (λ (r : Result Open DataFault). MatchResult r (ReadsOpen large g.data_) (IsOpenFault large g.data_)) g.is (open_verdict large g.data_ p.fits) in
    laid b g.data_ o hop p g.leads reads

-- it leads on at its place, whatever that is called
pub leads_at : (b : List ℕ) (start fixed : ℕ) (o : Open) (hop : HopAt) → CameOpen b o hop → start ≡ start_of b → fixed ≡ open_fixed_part o.fields.large
    → LeadsOn b start fixed hop
leads_at b start fixed o hop came e f = rw (e, f) came.on

-- what it is once it was closed up
pub closed_open : (b c : List ℕ) (start fixed : ℕ) (o : Open) (hop : HopAt) → (came : CameOpen b o hop) → start ≡ start_of b
    → fixed ≡ open_fixed_part o.fields.large
    → ((k : HopAt) → LeadsOn b start fixed k → c ≡ manager_bytes (get_or b 0 0) (take fixed (drop start b) ++ k.rest))
    → c ≡ manager_bytes (open_service o.fields.large) (open_layout o.fields.large came.x came.y came.z came.words (open_with o.fields hop.rest))
closed_open b c start fixed o hop came e f h =
    h hop (leads_at b start fixed o hop came e f)
    ∙ ap (λ (n : ℕ). manager_bytes (get_or b 0 0) (take fixed (drop n b) ++ hop.rest)) e
    ∙ ap (λ (n : ℕ). manager_bytes (get_or b 0 0) (take n (drop (start_of b) b) ++ hop.rest)) f ∙ came.cut
