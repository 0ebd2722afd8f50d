-- What the draft of a manifest says, and what a header line is.
use Rattle.std.specs.Option.{option_map}
use Rattle.manifest.specs.declared.draft.Draft.{Draft}
use Rattle.manifest.specs.declared.line.LineEntry.{LineEntry}
use Rattle.manifest.specs.Headers.{HeaderLine, Headers}
use Rattle.manifest.specs.Index.{exports_in, needs_in}

abbrev pub headers_in : Draft → Headers
headers_in d =
    record {
      name = option_map (λ n. n.now) d.name;
      version = d.version;
      controllers = d.controllers;
      exports = option_map exports_in d.exports;
      imports = option_map needs_in d.imports;
      requires = option_map needs_in d.required;
    }

abbrev pub line_in : LineEntry → HeaderLine
line_in l = record { header = l.header; value = l.value.now }
