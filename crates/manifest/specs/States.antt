-- What the reader holds between two lines.
use Rattle.manifest.specs.declared.reader.Reader.{Reader}
use Rattle.manifest.specs.Drafts.{headers_in}
use Rattle.manifest.specs.Index.{bundles_in}
use Rattle.manifest.specs.Reading.{State}

abbrev pub state_in : Reader → State
state_in r = record { bundles = bundles_in r.bundles; headers = headers_in r.draft }
