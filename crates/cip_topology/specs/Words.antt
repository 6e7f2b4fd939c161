-- How a topology file spells its keys.
use Rattle.std.specs.Prelude.{codes}
use Rattle.cip_base.specs.Words.{Octets}
use Rattle.cip_topology.specs.declared.key.Key.{Key}
use Rattle.cip_topology.specs.declared.key.Key.TheVariants as key

abbrev pub word_of : Key → Octets
word_of key.Link = codes "link"
word_of key.Module = codes "module"
word_of key.Name = codes "name"
word_of key.Kind = codes "kind"
word_of key.First = codes "first"
word_of key.Last = codes "last"
word_of key.Longest = codes "longest"
word_of key.Vendor = codes "vendor"
word_of key.DeviceType = codes "device_type"
word_of key.Product = codes "product"
word_of key.Major = codes "major"
word_of key.Minor = codes "minor"
word_of key.Status = codes "status"
word_of key.Serial = codes "serial"
word_of key.ProductName = codes "product_name"
word_of key.Clock = codes "clock"
word_of key.FirstId = codes "first_id"
word_of key.FirstNumber = codes "first_number"
word_of key.PendingRoom = codes "pending_room"
word_of key.HopRoom = codes "hop_room"
word_of key.Port = codes "port"
word_of key.Number = codes "number"
word_of key.Address = codes "address"
word_of key.Assembly = codes "assembly"
word_of key.Instance = codes "instance"
word_of key.Size = codes "size"
