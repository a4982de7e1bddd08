-- An importer as it is kept.
use Rattle.fw_import.specs.Importer.{ImporterValue}
use Rattle.fw_import.specs.declared.importer.Importer.TheInside.{Inside}

abbrev pub importer_view : Inside → ImporterValue
importer_view i = record { origin = i.origin.now; posts = i.posts }
