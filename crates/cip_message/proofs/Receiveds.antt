-- Where the data of a request stands that came to a Connection Manager.
use Rattle.std.proofs.Common.{◌≡◌, ℕ, ◌+◌, ◌*◌, ◌≤◌, List, [], ◌∷◌, ◌++◌, length, take, drop, get_or, inl, inr, sym, ap, subst, ◌∙◌, arith}
use Rattle.std.specs.Prelude.{MatchResult, Result}
use Rattle.std.proofs.lemmas.List.{drop_at, take_at, drop-drop, length-append}
use Rattle.cip_base.specs.Fields.{IsBytes}
use Rattle.cip_segment.specs.declared.segment.Segment.{Segment}
use Rattle.cip_segment.specs.declared.segment.Segment.TheVariants.{Class, Instance, Attribute}
use Rattle.cip_segment.specs.Spelling.{IsForm, Spells, IsReadable}
use Rattle.cip_segment.specs.Reading.{segments_of}
use Rattle.cip_segment.proofs.PathsRead.{segments_of-spelled}
use Rattle.cip_message.specs.declared.fault.RequestFault.{RequestFault}
use Rattle.cip_message.specs.declared.request.TheConstants.{CONNECTION_MANAGER}
use Rattle.cip_message.specs.Request.{Request, ReadsRequest, IsRequestFault}
use Rattle.cip_message.specs.Received.{IsManager, IsReceived}
use Rattle.cip_message.proofs.Readers.{IsBytes-take, IsBytes-drop}
use Rattle.cip_message.proofs.Requests.{request_verdict}

-- ---- the path of the Connection Manager has at least four bytes

class_len : (n : ℕ) (x : List ℕ) → IsForm x (Class n) → 2 ≤ length x
class_len n x (inl (lt, e)) = rw e (omega arith)
class_len n x (inr (w, is, e)) = rw e (omega arith)

instance_len : (n : ℕ) (x : List ℕ) → IsForm x (Instance n) → 2 ≤ length x
instance_len n x (inl (lt, e)) = rw e (omega arith)
instance_len n x (inr (inl (w, is, e))) = rw e (omega arith)
instance_len n x (inr (inr (w, is, e))) = rw e (omega arith)

two_len : (c i : ℕ) (others : List Segment) (p : List ℕ) → Spells p (Class c ∷ Instance i ∷ others) → 4 ≤ length p
two_len c i others p (x, y, e, class, (v, w, f, inst, rest)) =
    let whole : length p ≡ length x + (length v + length w) =
    ap (λ (z : List ℕ). length z) (e ∙ ap (λ (z : List ℕ). x ++ z) f) ∙ length-append x (v ++ w) ∙ ap (λ (n : ℕ). length x + n) (length-append v w) in
    omega (arith, whole, class_len c x class, instance_len i v inst)

manager_len : (p : List ℕ) → IsBytes p → IsReadable p → IsManager (segments_of p) → 4 ≤ length p
manager_len p fits readable (inl e) =
    two_len CONNECTION_MANAGER 1 [] p (subst (λ (s : List Segment). Spells p s) e (segments_of-spelled p fits readable))
manager_len p fits readable (inr (a, e)) =
    two_len CONNECTION_MANAGER 1 (Attribute a ∷ []) p (subst (λ (s : List Segment). Spells p s) e (segments_of-spelled p fits readable))

-- ---- where its data stands

pub record Placed (service : ℕ) (d b : List ℕ) : Type 0 where
  pub two : 2 ≤ length b
  pub service_is : get_or b 0 0 ≡ service
  pub header : 6 ≤ 2 + 2 * get_or b 1 0
  pub data_is : drop (2 + 2 * get_or b 1 0) b ≡ d
  pub len : length b ≡ (2 + 2 * get_or b 1 0) + length d
  pub fits : IsBytes d

placed_by : (service n : ℕ) (p d b : List ℕ) → IsBytes b → IsReadable p → IsManager (segments_of p) → length p ≡ 2 * n → b ≡ service ∷ n ∷ p ++ d
    → Placed service d b
placed_by service n p d b fits readable manager len e =
    let size : get_or b 1 0 ≡ n = ap (λ (z : List ℕ). get_or z 1 0) e in
    let behind : drop 2 b ≡ p ++ d = ap (λ (z : List ℕ). drop 2 z) e in
    let data_is : drop (2 + 2 * n) b ≡ d = sym (drop-drop (2 * n) 2 b) ∙ ap (λ (z : List ℕ). drop (2 * n) z) behind ∙ drop_at p d (2 * n) len in
    let p_fits : IsBytes p =
    subst IsBytes (ap (λ (z : List ℕ). take (2 * n) z) behind ∙ take_at p d (2 * n) len) (IsBytes-take (2 * n) (drop 2 b) (IsBytes-drop 2 b fits)) in
    let least : 4 ≤ length p = manager_len p p_fits readable manager in
    let long : length b ≡ 2 + length p + length d = ap (λ (z : List ℕ). length z) e ∙ omega (arith, length-append p d) in
    let place : drop (2 + 2 * get_or b 1 0) b ≡ d = ap (λ (i : ℕ). drop (2 + 2 * i) b) size ∙ data_is in record {
      two = omega (arith, long);
      service_is = ap (λ (z : List ℕ). get_or z 0 0) e;
      header = omega (arith, size, len, least);
      data_is = place;
      len = omega (arith, long, size, len);
      fits = subst IsBytes place (IsBytes-drop (2 + 2 * get_or b 1 0) b fits);
    }

pub placed : (service : ℕ) (d b : List ℕ) → IsBytes b → IsReceived service d b → Placed service d b
placed service d b fits r =
    let (low, readable, (n, len, e)) =
    subst (λ (q : Result Request RequestFault). MatchResult q (ReadsRequest b) (IsRequestFault b)) r.reads (request_verdict b fits) in
    placed_by service n r.path d b fits readable r.manager len e
