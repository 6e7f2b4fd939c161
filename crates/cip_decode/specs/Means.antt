-- What the data of a request says is what reading it gives: a record, or else the fault.
use Rattle.std.specs.Prelude.{◌≡◌, false, true, Result, Ok, Err}
use Rattle.cip_base.specs.Words.{Octets}
use Rattle.cip_message.specs.declared.fault.DataFault.{DataFault}
use Rattle.cip_message.specs.Request.{Request as Asking}
use Rattle.cip_unconnected.specs.declared.fault.UnconnectedFault.{UnconnectedFault}
use Rattle.cip_unconnected.specs.Unconnected.{Unconnected as Sent}
use Rattle.cip_unconnected.specs.UnconnectedAt.{unconnected_at}
use Rattle.cip_unconnected.specs.Reading.{unconnected_of}
use Rattle.cip_open.specs.Open.{Open as Opening}
use Rattle.cip_open.specs.OpenAt.{open_at}
use Rattle.cip_open.specs.Reading.{open_of}
use Rattle.cip_close.specs.Close.{Close as Closing}
use Rattle.cip_close.specs.CloseAt.{close_at}
use Rattle.cip_close.specs.Reading.{close_of}
use Rattle.cip_decode.specs.declared.request.Asked.{Asked}
use Rattle.cip_decode.specs.declared.request.Asked.TheVariants.{UnconnectedSend, ForwardOpen}
use Rattle.cip_decode.specs.declared.request.Asked.TheVariants.{LargeForwardOpen, ForwardClose}
use Rattle.cip_decode.specs.declared.request.Asked.TheVariants.{Other}
use Rattle.cip_decode.specs.declared.request.Meaning.{Meaning}
use Rattle.cip_decode.specs.declared.request.Meaning.TheVariants.{Unconnected, Open, Close}
use Rattle.cip_decode.specs.declared.request.Meaning.TheVariants.{UnreadUnconnected, Unread, Data}
use Rattle.cip_decode.specs.declared.request.Request.{Request}
use Rattle.cip_decode.specs.Asks.{asked_at}

abbrev pub MeansUnconnected : Result Sent UnconnectedFault → Meaning → Type 0
MeansUnconnected read (Unconnected view) = read ≡ Ok (unconnected_of view)
MeansUnconnected read (UnreadUnconnected fault) = read ≡ Err fault
MeansUnconnected read other = ⊥

abbrev pub MeansOpen : Result Opening DataFault → Meaning → Type 0
MeansOpen read (Open view) = read ≡ Ok (open_of view)
MeansOpen read (Unread fault) = read ≡ Err fault
MeansOpen read other = ⊥

abbrev pub MeansClose : Result Closing DataFault → Meaning → Type 0
MeansClose read (Close view) = read ≡ Ok (close_of view)
MeansClose read (Unread fault) = read ≡ Err fault
MeansClose read other = ⊥

-- of data behind a request that asks for this
abbrev pub Means : Asked → Octets → Meaning → Type 0
Means UnconnectedSend d m = MeansUnconnected (unconnected_at d) m
Means ForwardOpen d m = MeansOpen (open_at false d) m
Means LargeForwardOpen d m = MeansOpen (open_at true d) m
Means ForwardClose d m = MeansClose (close_at d) m
Means Other d m = m ≡ Data

-- a request says what it asks for by its service and path, and what its data says
abbrev pub IsDecoded : Request → Type 0
IsDecoded r = (r.asked ≡ asked_at r.view.service r.view.path.bytes.now)
    × Means r.asked r.view.data_.now r.meaning
