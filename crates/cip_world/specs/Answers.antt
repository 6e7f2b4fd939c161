-- A reply and the request that it answers.
use Rattle.std.specs.Prelude.{◌≡◌, ℕ, List, Some}
use Rattle.cip_event.specs.declared.event.Body.TheVariants as bodies
use Rattle.cip_event.specs.declared.event.Event.TheVariants as events
use Rattle.cip_event.specs.declared.event.Output.TheVariants as outputs
use Rattle.cip_laws.specs.Turns.{Came, Gave}
use Rattle.cip_chassis.specs.Plan.{Plan}
use Rattle.cip_chassis.specs.Nodes.{Way, across as goes}
use Rattle.cip_event.specs.declared.frame.FrameName.{FrameName}
use Rattle.cip_world.specs.Journals.{Journal, Flight, frame_at, part}

-- Frame f brings the reply n to module m, by a port from an address, whether it is taken or dropped
-- as late. The module sent one request n; that went there, and came before to the module that sent
-- this reply; and this is that module's one reply to it.
pub record Answered (t : Plan) (j : Journal) (f : FrameName) (m port n : ℕ) (from : List ℕ)
    : Type 0 where
  pub there : Way
  pub across : goes t (record { at = m; port = port; address = from }) ≡ Some there
  pub asked : List ℕ
  pub sent : Gave (part m j) (outputs.Send port from (bodies.Request n asked))
  pub only : (g h : FrameName) (x y : Flight) (b c : List ℕ) → x.way.at ≡ m → y.way.at ≡ m
      → x.body ≡ bodies.Request n b → y.body ≡ bodies.Request n c
      → frame_at j g ≡ Some x → frame_at j h ≡ Some y → g ≡ h
  pub came : Came (λ event. event
      ≡ events.Frame there.port there.address (bodies.Request n asked)) (part there.at j)
  pub once : (g : FrameName) (x : Flight) (b : List ℕ) → x.way ≡ there
      → x.body ≡ bodies.Reply n b → frame_at j g ≡ Some x → g ≡ f
