-- What the data of a reply says is what reading it gives: a record where it is one, else the fault.
use Rattle.std.specs.Prelude.{◌≡◌, ◌==◌, ◌%◌, Bool, false, true, [], ◌∷◌, Result, Ok, Err}
use Rattle.cip_base.specs.Words.{Octets}
use Rattle.cip_message.specs.declared.fault.DataFault.{DataFault}
use Rattle.cip_message.specs.declared.failure.ConnectionFailure.{ConnectionFailure}
use Rattle.cip_message.specs.Failure.{failure_at}
use Rattle.cip_open.specs.Success.{OpenSuccess}
use Rattle.cip_open.specs.SuccessAt.{open_reply_at}
use Rattle.cip_open.specs.Reading as opens
use Rattle.cip_close.specs.Success.{CloseSuccess}
use Rattle.cip_close.specs.SuccessAt.{close_reply_at}
use Rattle.cip_close.specs.Reading as closes
use Rattle.cip_decode.specs.declared.request.Asked.{Asked}
use Rattle.cip_decode.specs.declared.request.Asked.TheVariants.{UnconnectedSend, ForwardOpen}
use Rattle.cip_decode.specs.declared.request.Asked.TheVariants.{LargeForwardOpen, ForwardClose}
use Rattle.cip_decode.specs.declared.request.Asked.TheVariants.{Other}
use Rattle.cip_decode.specs.declared.reply.Answer.{Answer}
use Rattle.cip_decode.specs.declared.reply.Answer.TheVariants.{Opened, Closed, Failed, RouteLeft}
use Rattle.cip_decode.specs.declared.reply.Answer.TheVariants.{Unread, Data}
use Rattle.cip_decode.specs.declared.reply.Reply.{Reply}
use Rattle.cip_decode.specs.Asks.{asked_by}

abbrev pub AnswersOpen : Result OpenSuccess DataFault → Answer → Type 0
AnswersOpen read (Opened reply) = read ≡ Ok (opens.success_of reply)
AnswersOpen read (Unread fault) = read ≡ Err fault
AnswersOpen read other = ⊥

abbrev pub AnswersClose : Result CloseSuccess DataFault → Answer → Type 0
AnswersClose read (Closed reply) = read ≡ Ok (closes.success_of reply)
AnswersClose read (Unread fault) = read ≡ Err fault
AnswersClose read other = ⊥

abbrev pub AnswersFailure : Result ConnectionFailure DataFault → Answer → Type 0
AnswersFailure read (Failed failure) = read ≡ Ok failure
AnswersFailure read (Unread fault) = read ≡ Err fault
AnswersFailure read other = ⊥

-- one byte is the words of the route that were left
abbrev pub route_answer : Octets → Answer
route_answer (words ∷ []) = RouteLeft words
route_answer d = Data

abbrev pub AnswersRoute : Octets → Answer → Type 0
AnswersRoute d a = a ≡ route_answer d

-- of data behind a success, or a failure, of what was asked for
abbrev pub Answers : Asked → Bool → Octets → Answer → Type 0
Answers ForwardOpen true d a = AnswersOpen (open_reply_at d) a
Answers LargeForwardOpen true d a = AnswersOpen (open_reply_at d) a
Answers ForwardClose true d a = AnswersClose (close_reply_at d) a
Answers UnconnectedSend true d a = a ≡ Data
Answers Other true d a = a ≡ Data
Answers ForwardOpen false d a = AnswersFailure (failure_at d) a
Answers LargeForwardOpen false d a = AnswersFailure (failure_at d) a
Answers ForwardClose false d a = AnswersFailure (failure_at d) a
Answers UnconnectedSend false d a = AnswersRoute d a
Answers Other false d a = a ≡ Data

-- a reply says what it answers by its service, and what its data says
abbrev pub IsDecodedReply : Reply → Type 0
IsDecodedReply r = (r.asked ≡ asked_by (r.view.service % 128))
    × Answers r.asked (r.view.general == 0) r.view.data_.now r.answer
