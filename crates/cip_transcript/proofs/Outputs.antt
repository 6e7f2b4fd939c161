-- The line of an output is read as that output.
use Rattle.std.proofs.Common.{◌≡◌, ℕ, ◌<◌, ◌≤◌, ◌^◌, ◌++◌, ◌∷◌, ◌==◌, List, [], length, Some, true, false, refl, sym, ap, ◌∙◌, arith, append_assoc}
use Rattle.std.specs.Prelude.{codes, decimal, nat_le}
use Rattle.std.proofs.lemmas.Bool.Decides.{nat_tests}
use Rattle.cip_base.specs.declared.triad.Triad.{Triad}
use Rattle.cip_event.specs.declared.event.Body.{Body}
use Rattle.cip_event.specs.declared.event.Body.TheVariants.{Request, Reply, Data}
use Rattle.cip_event.specs.declared.event.Output.{Output}
use Rattle.cip_event.specs.declared.event.Output.TheVariants.{Send, Done, Refused, Consumed, Arrived, Expired, Ended, Dropped}
use Rattle.cip_event.specs.declared.event.Refused.{Refused as Refusal}
use Rattle.cip_event.specs.declared.event.Refused.TheVariants.{OpUsed, NotOpen, WrongSize, ReservedService, NoInstance}
use Rattle.cip_event.specs.declared.event.Dropped.{Dropped as Drop}
use Rattle.cip_event.specs.declared.event.Dropped.TheVariants.{Malformed, Late, UnknownId}
use Rattle.cip_event.specs.declared.event.Dropped.TheVariants as dropped
use Rattle.cip_chassis.specs.Plan.{Plan}
use Rattle.cip_words.specs.Shown.{below, number_of}
use Rattle.cip_words.proofs.Back.{number_back, bytes_back}
use Rattle.cip_read.specs.Fields.{◌>>=◌, if_positive, if_address, port_of, address_of}
use Rattle.cip_read.specs.Lines.{words_line, line_of}
use Rattle.cip_read.specs.declared.line.Line.TheVariants as lines
use Rattle.cip_transcript.specs.Show.{bytes_text, triad_text, refusal_text, drop_text, output_text, output_line}
use Rattle.cip_transcript.specs.Fits.{FitsBody, FitsPort, FitsAddress, FitsOutput}
use Rattle.cip_transcript.proofs.Words.{IsWord, AreWords, decimal_word, bytes_word, joined, joined_parted, sp, two, three, behind_three}

-- ---- the words of an output

abbrev pub first_word : Output → List ℕ
first_word (Send port to body) = codes "send"
first_word (Done op reply) = codes "done"
first_word (Refused fault) = codes "refused"
first_word (Consumed triad instance bytes) = codes "consumed"
first_word (Arrived op bytes) = codes "arrived"
first_word (Expired triad) = codes "expired"
first_word (Ended op) = codes "ended"
first_word (Dropped reason) = codes "dropped"

abbrev pub body_words : Body → List (List ℕ)
body_words (Request number bytes) = codes "request" ∷ decimal number ∷ bytes_text bytes ∷ []
body_words (Reply number bytes) = codes "reply" ∷ decimal number ∷ bytes_text bytes ∷ []
body_words (Data id bytes) = codes "data" ∷ decimal id ∷ bytes_text bytes ∷ []

abbrev pub more_words : Output → List (List ℕ)
more_words (Send port to body) = decimal port ∷ bytes_text to ∷ body_words body
more_words (Done op reply) = decimal op ∷ bytes_text reply ∷ []
more_words (Refused fault) = refusal_text fault ∷ []
more_words (Consumed triad instance bytes) =
    decimal triad.serial ∷ decimal triad.vendor ∷ decimal triad.originator ∷ decimal instance ∷ bytes_text bytes ∷ []
more_words (Arrived op bytes) = decimal op ∷ bytes_text bytes ∷ []
more_words (Expired triad) = decimal triad.serial ∷ decimal triad.vendor ∷ decimal triad.originator ∷ []
more_words (Ended op) = decimal op ∷ []
more_words (Dropped reason) = drop_text reason ∷ []

-- the words of a line behind the first, which is empty
abbrev pub line_words : ℕ → Output → List (List ℕ)
line_words i output = [] ∷ decimal i ∷ first_word output ∷ more_words output

-- ---- the line is those words

triad_joined : (triad : Triad) → triad_text triad ≡ decimal triad.serial ++ 32 ∷ (decimal triad.vendor ++ 32 ∷ decimal triad.originator)
triad_joined triad = three (decimal triad.serial) (decimal triad.vendor) (decimal triad.originator)

send_joined : (port to kind number bytes : List ℕ)
    → (((port ++ 32 ∷ []) ++ to) ++ 32 ∷ []) ++ (kind ++ 32 ∷ ((number ++ 32 ∷ []) ++ bytes)) ≡ port ++ 32 ∷ (to ++ 32 ∷ (kind ++ 32 ∷ (number ++ 32 ∷ bytes)))
send_joined port to kind number bytes =
    three port to (kind ++ 32 ∷ ((number ++ 32 ∷ []) ++ bytes)) ∙ ap (λ x. port ++ 32 ∷ (to ++ 32 ∷ (kind ++ 32 ∷ x))) (sp number bytes)

pub text_joined : (output : Output) → output_text output ≡ joined (first_word output) (more_words output)
text_joined (Send port to (Request number bytes)) =
    ap (λ x. codes "send " ++ x) (send_joined (decimal port) (bytes_text to) (codes "request") (decimal number) (bytes_text bytes))
text_joined (Send port to (Reply number bytes)) =
    ap (λ x. codes "send " ++ x) (send_joined (decimal port) (bytes_text to) (codes "reply") (decimal number) (bytes_text bytes))
text_joined (Send port to (Data id bytes)) =
    ap (λ x. codes "send " ++ x) (send_joined (decimal port) (bytes_text to) (codes "data") (decimal id) (bytes_text bytes))
text_joined (Done op reply) = ap (λ x. codes "done " ++ x) (sp (decimal op) (bytes_text reply))
text_joined (Refused fault) = refl
text_joined (Consumed triad instance bytes) =
    ap (λ x. codes "consumed " ++ x)
    (three (triad_text triad) (decimal instance) (bytes_text bytes)
    ∙ (ap (λ x. x ++ 32 ∷ (decimal instance ++ 32 ∷ bytes_text bytes)) (triad_joined triad)
    ∙ behind_three (decimal triad.serial) (decimal triad.vendor) (decimal triad.originator) (32 ∷ (decimal instance ++ 32 ∷ bytes_text bytes))))
text_joined (Arrived op bytes) = ap (λ x. codes "arrived " ++ x) (sp (decimal op) (bytes_text bytes))
text_joined (Expired triad) = ap (λ x. codes "expired " ++ x) (triad_joined triad)
text_joined (Ended op) = refl
text_joined (Dropped reason) = refl

pub line_joined : (i : ℕ) (output : Output) → output_line i output ≡ joined [] (line_words i output) ++ 10 ∷ []
line_joined i output =
    let text : List ℕ = joined (first_word output) (more_words output) in
    ap (λ x. 32 ∷ 32 ∷ x)
    (two (decimal i) (output_text output) (10 ∷ [])
    ∙ (ap (λ x. decimal i ++ 32 ∷ (x ++ 10 ∷ [])) (text_joined output) ∙ sym (append_assoc (decimal i) (32 ∷ text) (10 ∷ []))))

-- ---- they are words

small : (n : ℕ) → n < 2 ^ 32 → n < 2 ^ 64
small n h = omega arith

tiny : (n : ℕ) → n < 2 ^ 16 → n < 2 ^ 64
tiny n h = omega arith

pub number_word : (n : ℕ) → n < 2 ^ 32 → IsWord (decimal n)
number_word n h = decimal_word n (small n h)

pub small_word : (n : ℕ) → n < 2 ^ 16 → IsWord (decimal n)
small_word n h = decimal_word n (tiny n h)

refusal_word : (fault : Refusal) → IsWord (refusal_text fault)
refusal_word OpUsed = refl
refusal_word NotOpen = refl
refusal_word WrongSize = refl
refusal_word ReservedService = refl
refusal_word NoInstance = refl

drop_word : (reason : Drop) → IsWord (drop_text reason)
drop_word Malformed = refl
drop_word Late = refl
drop_word UnknownId = refl
drop_word dropped.WrongSize = refl

body_are_words : (body : Body) → FitsBody body → AreWords (body_words body)
body_are_words (Request number bytes) h = (refl, (number_word number h.0, (bytes_word bytes h.1, tt)))
body_are_words (Reply number bytes) h = (refl, (number_word number h.0, (bytes_word bytes h.1, tt)))
body_are_words (Data id bytes) h = (refl, (number_word id h.0, (bytes_word bytes h.1, tt)))

first_is_word : (output : Output) → IsWord (first_word output)
first_is_word (Send port to body) = refl
first_is_word (Done op reply) = refl
first_is_word (Refused fault) = refl
first_is_word (Consumed triad instance bytes) = refl
first_is_word (Arrived op bytes) = refl
first_is_word (Expired triad) = refl
first_is_word (Ended op) = refl
first_is_word (Dropped reason) = refl

more_are_words : (output : Output) → FitsOutput output → AreWords (more_words output)
more_are_words (Send port to body) h = (small_word port h.0.1, (bytes_word to h.1.2, body_are_words body h.2))
more_are_words (Done op reply) h = (number_word op h.0, (bytes_word reply h.1, tt))
more_are_words (Refused fault) h = (refusal_word fault, tt)
more_are_words (Consumed triad instance bytes) h = (
  small_word triad.serial h.0.0,
  (
    small_word triad.vendor h.0.1,
    (
      number_word triad.originator h.0.2,
      (number_word instance h.1, (bytes_word bytes h.2, tt)),
    ),
  ),
)
more_are_words (Arrived op bytes) h = (number_word op h.0, (bytes_word bytes h.1, tt))
more_are_words (Expired triad) h = (small_word triad.serial h.0, (small_word triad.vendor h.1, (number_word triad.originator h.2, tt)))
more_are_words (Ended op) h = (number_word op h, tt)
more_are_words (Dropped reason) h = (drop_word reason, tt)

pub line_are_words : (i : ℕ) (output : Output) → i < 2 ^ 64 → FitsOutput output → AreWords (line_words i output)
line_are_words i output h k = (refl, (decimal_word i h, (first_is_word output, more_are_words output k)))

-- ---- they are read

pub n64 : (n : ℕ) → n < 2 ^ 64 → below (2 ^ 64) (number_of (decimal n)) ≡ Some n
n64 n h = number_back (2 ^ 64) n h h

pub n32 : (n : ℕ) → n < 2 ^ 32 → below (2 ^ 32) (number_of (decimal n)) ≡ Some n
n32 n h = number_back (2 ^ 32) n h (small n h)

pub n16 : (n : ℕ) → n < 2 ^ 16 → below (2 ^ 16) (number_of (decimal n)) ≡ Some n
n16 n h = number_back (2 ^ 16) n h (tiny n h)

pub positive : (n : ℕ) → 1 ≤ n → if_positive n ≡ Some n
positive n h =
    let e : (n == 0) ≡ false = grind (arith, nat_tests) in
    rw e refl

port_back : (port : ℕ) → FitsPort port → port_of (decimal port) ≡ Some port
port_back port h = ap (λ o. o >>= if_positive) (n16 port h.1) ∙ positive port h.0

addressed : (address : List ℕ) → FitsAddress address → if_address address ≡ Some address
addressed address h =
    let one : nat_le 1 (length address) ≡ true = grind (arith, nat_tests) in
    let most : nat_le (length address) 16 ≡ true = grind (arith, nat_tests) in
    rw (one, most) refl

address_back : (address : List ℕ) → FitsAddress address → address_of (bytes_text address) ≡ Some address
address_back address h = ap (λ o. o >>= if_address) (bytes_back address h.2) ∙ addressed address h

pub output_read : (t : Plan) (i : ℕ) (output : Output) → i < 2 ^ 64 → FitsOutput output
    → words_line t ([] ∷ line_words i output) ≡ Some (lines.Output i output)
output_read t i (Send port to (Request number bytes)) h k =
    rw (n64 i h, port_back port k.0, address_back to k.1, n32 number k.2.0, bytes_back bytes k.2.1) refl
output_read t i (Send port to (Reply number bytes)) h k =
    rw (n64 i h, port_back port k.0, address_back to k.1, n32 number k.2.0, bytes_back bytes k.2.1) refl
output_read t i (Send port to (Data id bytes)) h k =
    rw (n64 i h, port_back port k.0, address_back to k.1, n32 id k.2.0, bytes_back bytes k.2.1) refl
output_read t i (Done op reply) h k = rw (n64 i h, n32 op k.0, bytes_back reply k.1) refl
output_read t i (Refused OpUsed) h k = rw (n64 i h) refl
output_read t i (Refused NotOpen) h k = rw (n64 i h) refl
output_read t i (Refused WrongSize) h k = rw (n64 i h) refl
output_read t i (Refused ReservedService) h k = rw (n64 i h) refl
output_read t i (Refused NoInstance) h k = rw (n64 i h) refl
output_read t i (Consumed triad instance bytes) h k =
    rw (n64 i h, n16 triad.serial k.0.0, n16 triad.vendor k.0.1, n32 triad.originator k.0.2, n32 instance k.1, bytes_back bytes k.2) refl
output_read t i (Arrived op bytes) h k = rw (n64 i h, n32 op k.0, bytes_back bytes k.1) refl
output_read t i (Expired triad) h k = rw (n64 i h, n16 triad.serial k.0, n16 triad.vendor k.1, n32 triad.originator k.2) refl
output_read t i (Ended op) h k = rw (n64 i h, n32 op k) refl
output_read t i (Dropped Malformed) h k = rw (n64 i h) refl
output_read t i (Dropped Late) h k = rw (n64 i h) refl
output_read t i (Dropped UnknownId) h k = rw (n64 i h) refl
output_read t i (Dropped dropped.WrongSize) h k = rw (n64 i h) refl

pub output_line_read : (t : Plan) (i : ℕ) (output : Output) → i < 2 ^ 64 → FitsOutput output
    → line_of t (joined [] (line_words i output)) ≡ Some (lines.Output i output)
unfolding line_of
output_line_read t i output h k = ap (words_line t) (joined_parted [] (line_words i output) refl (line_are_words i output h k)) ∙ output_read t i output h k
