-- What a reply says of the attributes that were asked for.
use Rattle.std.specs.Prelude.{◌≡◌, ℕ, Bool, true, false, ◌==◌, ◌&&◌, Option, Some, None}
use Rattle.cip_base.specs.Words.{Octets}
use Rattle.cip_decode.specs.declared.attributes.Attributes.{Attributes}
use Rattle.cip_decode.specs.declared.attributes.Attributes.TheVariants as asks
use Rattle.cip_decode.specs.declared.attributes.AttributesView.{AttributesView}
use Rattle.cip_decode.specs.declared.attributes.AttributesView.TheVariants.{Identity, OfIdentity}
use Rattle.cip_decode.specs.declared.attributes.AttributesView.TheVariants.{Assembly}
use Rattle.cip_decode.specs.declared.reply.Reply.{Reply}
use Rattle.cip_decode.specs.Identities.{identity_at, identity_of, is_attribute, ReadsAttribute}

-- the record that the data reads as, of what was asked for
abbrev pub ReadsAttributes : Attributes → Octets → Option AttributesView → Type 0
ReadsAttributes asks.Identity d (Some (Identity v)) = identity_at d ≡ Some (identity_of v)
ReadsAttributes asks.Identity d None = identity_at d ≡ None
ReadsAttributes (asks.OfIdentity a) d (Some (OfIdentity v)) = ReadsAttribute a d (Some v)
ReadsAttributes (asks.OfIdentity a) d None = is_attribute a d ≡ false
ReadsAttributes (asks.Assembly i) d (Some (Assembly j held)) = (j ≡ i) × (held.now ≡ d)
ReadsAttributes a d other = ⊥

-- Get_Attributes_All gives all, Get_Attribute_Single one
abbrev pub service_of : Attributes → ℕ
service_of asks.Identity = 0x81
service_of a = 0x8E

-- a success of that service
abbrev pub has_attributes : Attributes → ℕ → ℕ → Bool
has_attributes a service general = (service == service_of a) && (general == 0)

abbrev pub AnswersIf : Bool → Attributes → Octets → Option AttributesView → Type 0
AnswersIf true a d found = ReadsAttributes a d found
AnswersIf false a d found = found ≡ None

-- where the reply is one, what its data reads as
abbrev pub IsAnswered : Attributes → Reply → Option AttributesView → Type 0
IsAnswered a r found =
    AnswersIf (has_attributes a r.view.service r.view.general) a r.view.data_.now found
