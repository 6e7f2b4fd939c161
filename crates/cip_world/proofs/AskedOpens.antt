-- What the command that asks for an open begins: the words of its path, and a trail.
use Rattle.std.proofs.Common.{◌≡◌, ℕ, true, refl, Some}
use Rattle.std.proofs.lemmas.Bool.{eq-eqb}
use Rattle.cip_open.specs.Open.{Open}
use Rattle.cip_target.specs.declared.identity.IdentityFields.{IdentityFields}
use Rattle.cip_event.specs.declared.event.Command.{Command}
use Rattle.cip_routing.specs.Table.{asked_open, words_of}
use Rattle.cip_laws.proofs.AskedOpens.{each_open}
use Rattle.cip_world.specs.TrailTells.{command_words}
use Rattle.cip_world.specs.Trails.{opens_or_sends}

module _ (i : IdentityFields) (op : ℕ) (o : Open) where
  pub words_asked : (c : Command) → asked_open i c ≡ Some (op, o) → command_words c ≡ Some (words_of o.path)
  words_asked c =
      each_open i (λ c op o. command_words c ≡ Some (words_of o.path)) (λ op timing path params. refl) (λ op timing path params. refl) c op o

  pub begins_asked : (c : Command) → asked_open i c ≡ Some (op, o) → opens_or_sends op c ≡ true
  begins_asked c =
      each_open i (λ c op o. opens_or_sends op c ≡ true) (λ op timing path params. eq-eqb op op refl) (λ op timing path params. eq-eqb op op refl) c op o
