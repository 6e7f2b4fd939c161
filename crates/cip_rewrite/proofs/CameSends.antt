-- An Unconnected_Send as it came: where its route stands, and what closing it up leaves.
use Rattle.std.proofs.Common.{◌≡◌, ℕ, ◌+◌, ◌%◌, ◌≤◌, List, [], ◌∷◌, ◌++◌, length, take, drop, get_or, Some, refl, sym, ap, subst, ◌∙◌, append_assoc, arith}
use Rattle.std.specs.Prelude.{MatchResult, Result}
use Rattle.std.proofs.lemmas.List.{take_at, drop_at, drop-drop, length-append}
use Rattle.cip_base.specs.Fields.{IsBytes, word}
use Rattle.cip_segment.specs.Reading.{HopAt, hop_of}
use Rattle.cip_message.specs.Manager.{manager_bytes}
use Rattle.cip_message.specs.Numbers.{word_in}
use Rattle.cip_message.proofs.Words.{word_again}
use Rattle.cip_message.proofs.Receiveds.{Placed, placed}
use Rattle.cip_unconnected.specs.declared.unconnected.TheConstants.{UNCONNECTED_SEND}
use Rattle.cip_unconnected.specs.declared.fault.UnconnectedFault.{UnconnectedFault}
use Rattle.cip_unconnected.specs.Unconnected.{Unconnected, unconnected_with, unconnected_layout, ReadsUnconnected, IsUnconnectedFault}
use Rattle.cip_unconnected.specs.GoesOn.{IsSendGoingOn}
use Rattle.cip_unconnected.proofs.Unconnecteds.{unconnected_verdict}
use Rattle.cip_rewrite.specs.LeadsOn.{LeadsOn}
use Rattle.cip_rewrite.proofs.Paths.{start_of, leads_on}

-- how many bytes of the data stand before the route
abbrev pub fixed_of : ℕ → ℕ
fixed_of n = 4 + n + n % 2 + 2

pub record CameSend (b : List ℕ) (u : Unconnected) (hop : HopAt) : Type 0 where
  pub two : 2 ≤ length b
  pub within : start_of b + 4 + length u.request ≤ length b
  pub size_is : word_in (drop (start_of b) b) 2 ≡ length u.request
  pub request_is : take (length u.request) (drop (start_of b + 4) b) ≡ u.request
  pub on : LeadsOn b (start_of b) (fixed_of (length u.request)) hop
  pub padding : List ℕ
  pub words : ℕ
  pub x : ℕ
  pub pad_len : length padding ≡ length u.request % 2
  pub cut : manager_bytes (get_or b 0 0) (take (fixed_of (length u.request)) (drop (start_of b) b) ++ hop.rest)
      ≡ manager_bytes UNCONNECTED_SEND (unconnected_layout padding words x (unconnected_with u.timing u.request hop.rest))

-- the data before the route
abbrev before : List ℕ → ℕ → ℕ → Unconnected → List ℕ
before padding w x u = u.timing.tick ∷ u.timing.ticks ∷ word (length u.request) ++ (u.request ++ (padding ++ (w ∷ x ∷ [])))

before_route : (padding : List ℕ) (w x : ℕ) (u : Unconnected) (route : List ℕ)
    → before padding w x u ++ route ≡ unconnected_layout padding w x (unconnected_with u.timing u.request route)
before_route padding w x u route =
    ap (λ (t : List ℕ). u.timing.tick ∷ u.timing.ticks ∷ word (length u.request) ++ t)
    (append_assoc u.request (padding ++ (w ∷ x ∷ [])) route ∙ ap (λ (t : List ℕ). u.request ++ t) (append_assoc padding (w ∷ x ∷ []) route))

before_len : (padding : List ℕ) (w x : ℕ) (u : Unconnected) → length padding ≡ length u.request % 2
    → length (before padding w x u) ≡ fixed_of (length u.request)
before_len padding w x u e = omega (arith, e, length-append u.request (padding ++ (w ∷ x ∷ [])), length-append padding (w ∷ x ∷ []))

laid : (b d : List ℕ) (u : Unconnected) (hop : HopAt) → Placed UNCONNECTED_SEND d b → hop_of u.route ≡ Some hop → ReadsUnconnected d u → CameSend b u hop
laid b d u hop p leads (readable, (padding, w, x, plen, rlen, e)) =
    let n : ℕ = length u.request in
    let f : List ℕ = before padding w x u in
    let f_len : length f ≡ fixed_of n = before_len padding w x u plen in
    let d_is : d ≡ f ++ u.route = e ∙ sym (before_route padding w x u u.route) in
    let long : length d ≡ fixed_of n + length u.route =
    ap (λ (t : List ℕ). length t) d_is ∙ length-append f u.route ∙ ap (λ (k : ℕ). k + length u.route) f_len in
    let path_is : drop (fixed_of n) d ≡ u.route = ap (λ (t : List ℕ). drop (fixed_of n) t) d_is ∙ drop_at f u.route (fixed_of n) f_len in
    let front_is : take (fixed_of n) d ≡ f = ap (λ (t : List ℕ). take (fixed_of n) t) d_is ∙ take_at f u.route (fixed_of n) f_len in
    let four : drop (start_of b + 4) b ≡ drop 4 d = sym (drop-drop 4 (start_of b) b) ∙ ap (λ (t : List ℕ). drop 4 t) p.data_is in record {
      two = p.two;
      within = omega (arith, p.len, long);
      size_is = ap (λ (t : List ℕ). word_in t 2) (p.data_is ∙ e) ∙ word_again n;
      request_is =
          ap (λ (t : List ℕ). take n t) (four ∙ ap (λ (t : List ℕ). drop 4 t) e) ∙ take_at u.request (padding ++ (w ∷ x ∷ u.route)) n refl;
      on = leads_on b d (start_of b) (fixed_of n) u.route hop p.header (omega (arith, p.len, long)) p.data_is path_is p.fits readable leads;
      padding = padding;
      words = w;
      x = x;
      pad_len = plen;
      cut =
          ap (λ (s : ℕ). manager_bytes s (take (fixed_of n) (drop (start_of b) b) ++ hop.rest)) p.service_is
          ∙ ap (λ (t : List ℕ). manager_bytes UNCONNECTED_SEND (t ++ hop.rest)) (ap (λ (t : List ℕ). take (fixed_of n) t) p.data_is ∙ front_is)
          ∙ ap (λ (t : List ℕ). manager_bytes UNCONNECTED_SEND t) (before_route padding w x u hop.rest);
    }

pub came_send : (b : List ℕ) (u : Unconnected) (hop : HopAt) → IsBytes b → IsSendGoingOn b u hop → CameSend b u hop
came_send b u hop fits g =
    let p = placed UNCONNECTED_SEND g.data_ b fits g.request in
    let reads : ReadsUnconnected g.data_ u =
    subst (λ (r : Result Unconnected UnconnectedFault). MatchResult r (ReadsUnconnected g.data_) (IsUnconnectedFault g.data_)) g.is
    (unconnected_verdict g.data_ p.fits) in
    laid b g.data_ u hop p g.leads reads

-- what it is once it was closed up
pub closed_send : (b c : List ℕ) (start fixed : ℕ) (u : Unconnected) (hop : HopAt) → (came : CameSend b u hop) → start ≡ start_of b
    → fixed ≡ fixed_of (length u.request)
    → ((k : HopAt) → LeadsOn b start fixed k → c ≡ manager_bytes (get_or b 0 0) (take fixed (drop start b) ++ k.rest))
    → c ≡ manager_bytes UNCONNECTED_SEND (unconnected_layout came.padding came.words came.x (unconnected_with u.timing u.request hop.rest))
closed_send b c start fixed u hop came e f h =
    h hop (subst (λ (n : ℕ). LeadsOn b n fixed hop) (sym e) (subst (λ (n : ℕ). LeadsOn b (start_of b) n hop) (sym f) came.on))
    ∙ ap (λ (n : ℕ). manager_bytes (get_or b 0 0) (take fixed (drop n b) ++ hop.rest)) e
    ∙ ap (λ (n : ℕ). manager_bytes (get_or b 0 0) (take n (drop (start_of b) b) ++ hop.rest)) f ∙ came.cut

-- the size that is read
pub sized : (b v : List ℕ) (start size : ℕ) (u : Unconnected) (hop : HopAt) → CameSend b u hop → start ≡ start_of b → v ≡ b
    → size ≡ word_in (drop start v) 2 → size ≡ length u.request
sized b v start size u hop came e f g =
    g ∙ ap (λ (t : List ℕ). word_in (drop start t) 2) f ∙ ap (λ (n : ℕ). word_in (drop n b) 2) e ∙ came.size_is
