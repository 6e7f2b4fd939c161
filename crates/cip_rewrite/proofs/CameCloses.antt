-- A Forward_Close as it came: where its path stands, and what closing it up leaves.
use Rattle.std.proofs.Common.{◌≡◌, ℕ, ◌+◌, ◌≤◌, List, ◌++◌, length, take, drop, get_or, Some, sym, ap, subst, ◌∙◌, arith}
use Rattle.std.specs.Prelude.{MatchResult, Result}
use Rattle.cip_base.specs.Fields.{IsBytes}
use Rattle.cip_segment.specs.Reading.{HopAt, hop_of}
use Rattle.cip_message.specs.declared.fault.DataFault.{DataFault}
use Rattle.cip_message.specs.Manager.{manager_bytes}
use Rattle.cip_message.proofs.Receiveds.{Placed, placed}
use Rattle.cip_close.specs.declared.request.TheConstants.{FORWARD_CLOSE}
use Rattle.cip_close.specs.Close.{Close, close_with, close_layout, ReadsClose, IsCloseFault}
use Rattle.cip_close.specs.GoesOn.{IsCloseGoingOn}
use Rattle.cip_close.proofs.Closes.{close_verdict}
use Rattle.cip_rewrite.specs.LeadsOn.{LeadsOn}
use Rattle.cip_rewrite.proofs.Paths.{start_of, leads_on}

pub record CameClose (b : List ℕ) (o : Close) (hop : HopAt) : Type 0 where
  pub two : 2 ≤ length b
  pub on : LeadsOn b (start_of b) 12 hop
  pub x : ℕ
  pub words : ℕ
  pub cut : manager_bytes (get_or b 0 0) (take 12 (drop (start_of b) b) ++ hop.rest)
      ≡ manager_bytes FORWARD_CLOSE (close_layout words x (close_with o.fields hop.rest))

laid : (b d : List ℕ) (o : Close) (hop : HopAt) → Placed FORWARD_CLOSE d b → hop_of o.path ≡ Some hop → ReadsClose d o → CameClose b o hop
laid b d o hop p leads (readable, (n, x, len, e)) =
    let path_is : drop 12 d ≡ o.path = ap (λ (t : List ℕ). drop 12 t) e in
    let long : length d ≡ 12 + length o.path = ap (λ (t : List ℕ). length t) e ∙ omega arith in record {
      two = p.two;
      on = leads_on b d (start_of b) 12 o.path hop p.header (omega (arith, p.len, long)) p.data_is path_is p.fits readable leads;
      x = x;
      words = n;
      cut =
          ap (λ (s : ℕ). manager_bytes s (take 12 (drop (start_of b) b) ++ hop.rest)) p.service_is
          ∙ ap (λ (t : List ℕ). manager_bytes FORWARD_CLOSE (take 12 t ++ hop.rest)) (p.data_is ∙ e);
    }

pub came_close : (b : List ℕ) (o : Close) (hop : HopAt) → IsBytes b → IsCloseGoingOn b o hop → CameClose b o hop
came_close b o hop fits g =
    let p = placed FORWARD_CLOSE g.data_ b fits g.request in
    let reads : ReadsClose g.data_ o =
    subst (λ (r : Result Close DataFault). MatchResult r (ReadsClose g.data_) (IsCloseFault g.data_)) g.is (close_verdict g.data_ p.fits) in
    laid b g.data_ o hop p g.leads reads

-- what it is once it was closed up
pub closed_close : (b c : List ℕ) (start : ℕ) (o : Close) (hop : HopAt) → (came : CameClose b o hop) → start ≡ start_of b
    → ((k : HopAt) → LeadsOn b start 12 k → c ≡ manager_bytes (get_or b 0 0) (take 12 (drop start b) ++ k.rest))
    → c ≡ manager_bytes FORWARD_CLOSE (close_layout came.words came.x (close_with o.fields hop.rest))
closed_close b c start o hop came e h =
    h hop (subst (λ (n : ℕ). LeadsOn b n 12 hop) (sym e) came.on)
    ∙ ap (λ (n : ℕ). manager_bytes (get_or b 0 0) (take 12 (drop n b) ++ hop.rest)) e ∙ came.cut
