-- The bytes of a name, wherever they stand.
use Rattle.text_core.specs.Names.{Text}
use Rattle.text_core.specs.declared.name_bytes.NameBytes.{NameBytes}
use Rattle.text_core.specs.declared.name_bytes.NameBytes.TheVariants.{Within, Beyond}

abbrev pub bytes_of : NameBytes → Text
bytes_of (Within bytes) = bytes
bytes_of (Beyond bytes) = bytes
