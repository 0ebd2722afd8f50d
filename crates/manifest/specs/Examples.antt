-- Short directories, and what they read as.
use Rattle.std.specs.Prelude.{◌≡◌, ℕ, zero, suc, List, [], ◌∷◌, ◌++◌, replicate, Ok, codes, decimal}
use Rattle.kinds.specs.declared.range.End.TheVariants.{Included, Excluded}
use Rattle.kinds.specs.declared.version.Version.{Version}
use Rattle.kinds.specs.declared.range.Range.TheVariants.{AtLeast, Between}
use Rattle.shelf.specs.Meaning.{Bundle}
use Rattle.shelf.specs.declared.need.NeedKind.TheVariants.{Import, Require}
use Rattle.shelf.specs.declared.need.Resolution.TheVariants.{Mandatory, Optional}
use Rattle.shelf.specs.declared.need.Visibility.TheVariants.{Private, Reexport}
use Rattle.manifest.specs.Values.{no_version, all_versions, all_controllers}
use Rattle.manifest.specs.Reading.{reading, refused}
use Rattle.manifest.specs.Written.{written}

abbrev pub Reads : List ℕ → List Bundle → Type 0
Reads text bs = reading text ≡ Ok bs

abbrev pub Refuses : List ℕ → ℕ → ℕ → Type 0
Refuses text question offset = reading text ≡ refused question offset

abbrev pub numbered : ℕ → ℕ → ℕ → Version
numbered a b c = record { major = a; minor = b; micro = c }

abbrev pub lamp_text : List ℕ
lamp_text =
    codes "Bundle-SymbolicName: org.lamp\nBundle-Version: 1.2.3.final\nX-Controller: [3,7)\nVendor: none\nVendor: again\n"
    ++ (codes "Export-Package: org.lamp;uses:=\"org.units,org.b\";version=\"1.2\",org.x\n"
    ++ (codes "Require-Bundle: base;visibility:=reexport;bundle-version=\"[1,2)\"\n"
    ++ codes "Import-Package: org.units;resolution:=optional;version=\"(1.0,2.0.7]\",c\n\nBundle-SymbolicName: base\n\n"))

abbrev pub lamp : Bundle
lamp =
    record {
      name = codes "org.lamp";
      version = numbered 1 2 3;
      controllers = Between (Included (record { 0 = 3 })) (Excluded (record { 0 = 7 }));
      exports =
          record { name = codes "org.lamp"; version = numbered 1 2 0; uses = codes "org.units" ∷ (codes "org.b" ∷ []) }
          ∷ (record { name = codes "org.x"; version = no_version; uses = [] } ∷ []);
      needs =
          record {
            kind = Import;
            name = codes "org.units";
            range = Between (Excluded (numbered 1 0 0)) (Included (numbered 2 0 7));
            resolution = Optional;
          }
          ∷ (record { kind = Import; name = codes "c"; range = all_versions; resolution = Mandatory }
          ∷ (record {
            kind = Require Reexport;
            name = codes "base";
            range = Between (Included (numbered 1 0 0)) (Excluded (numbered 2 0 0));
            resolution = Mandatory;
          }
          ∷ []));
    }

abbrev pub base : Bundle
base = record { name = codes "base"; version = no_version; controllers = all_controllers; exports = []; needs = [] }

-- numbers, names and lists as large as they may be
abbrev pub largest : Bundle
largest =
    record {
      name = replicate 48 45;
      version = numbered 65535 65535 65535;
      controllers = Between (Excluded (record { 0 = 0 })) (Included (record { 0 = 65535 }));
      exports = record { name = replicate 48 95; version = numbered 0 0 65535; uses = replicate 8 (codes "a.b") } ∷ [];
      needs =
          record { kind = Import; name = codes "a.b.c"; range = AtLeast (numbered 0 65535 0); resolution = Mandatory }
          ∷ (record {
            kind = Require Private;
            name = codes "a.b.c";
            range = Between (Excluded (numbered 7 0 0)) (Excluded (numbered 2 0 0));
            resolution = Optional;
          }
          ∷ []);
    }

-- n equal clauses after the first
abbrev pub again : ℕ → List ℕ
again zero = codes "\n\n"
again (suc n) = codes ",a" ++ again n

-- n manifests, each named by its place from the end
abbrev pub many : ℕ → List ℕ
many zero = []
many (suc n) = codes "Bundle-SymbolicName: " ++ (decimal (suc n) ++ (codes "\n\n" ++ many n))

-- a header after the symbolic name, which takes 23 bytes
abbrev pub after : List ℕ → List ℕ
after line = codes "Bundle-SymbolicName: a\n" ++ (line ++ codes "\n\n")

pub record Examples : Type 0 where
  pub reads : Reads lamp_text (lamp ∷ (base ∷ []))
  pub none : Reads [] []
  pub writes : Reads (written (lamp ∷ (base ∷ []))) (lamp ∷ (base ∷ []))
  pub writes_largest : Reads (written (largest ∷ (base ∷ []))) (largest ∷ (base ∷ []))
  pub long : Refuses (replicate 65537 9) 1 0
  pub stray : Refuses (codes "Bundle-SymbolicName: a\nB: x\t\n\n") 2 23
  pub stray_last : Refuses (codes "a\n\tb") 2 2
  pub unclosed : Refuses (codes "Bundle-SymbolicName: a\n") 3 23
  pub no_line_feed : Refuses (codes "Bundle-SymbolicName: a\n\nB: x") 3 28
  pub unclosed_full : Refuses (replicate 65536 32) 3 65536
  pub no_header : Refuses (after (codes "Export-Package:a")) 5 23
  pub no_value : Refuses (after (codes "Vendor: ")) 5 23
  pub no_name : Refuses (after (codes ": x")) 5 23
  pub long_header : Refuses (after (replicate 65 97 ++ codes ": x")) 5 23
  pub longest_header : Reads (after (replicate 64 97 ++ codes ": x")) (record { name = codes "a"; version = no_version; controllers = all_controllers; exports = []; needs = [] } ∷ [])
  pub second : Refuses (after (codes "Bundle-SymbolicName: \"")) 6 23
  pub spaced_name : Refuses (codes "Bundle-SymbolicName:  a\n\n") 7 0
  pub dots : Refuses (codes "Bundle-SymbolicName: a..b\n\n") 7 0
  pub quote : Refuses (after (codes "Bundle-Version: 1\"")) 7 23
  pub spaced_version : Refuses (after (codes "Bundle-Version:  1")) 8 23
  pub foreign : Refuses (after (codes "Export-Package: a;resolution:=optional")) 7 23
  pub repeated : Refuses (after (codes "Export-Package: a;version=\"1\";version=\"1\"")) 7 23
  pub unquoted : Refuses (after (codes "Export-Package: a;version=1")) 7 23
  pub overquoted : Refuses (after (codes "Import-Package: a;resolution:=\"optional\"")) 7 23
  pub no_uses : Refuses (after (codes "Export-Package: a;uses:=\"\"")) 7 23
  pub late_form : Refuses (after (codes "Export-Package: a;version=\"x\",a;b")) 7 23
  pub no_number : Refuses (after (codes "X-Controller: 65536")) 8 23
  pub empty_version : Refuses (after (codes "Export-Package: a;version=\"\"")) 8 23
  pub no_range : Refuses (after (codes "Require-Bundle: a;bundle-version=\"[1;2)\"")) 8 23
  pub long_name : Refuses (codes "Bundle-SymbolicName: " ++ (replicate 49 97 ++ codes "\n\n")) 9 0
  pub many_exports : Refuses (after (codes "Export-Package: a" ++ again 16)) 9 23
  pub many_needs : Refuses (after (codes "Import-Package: a,b,c,d,e,f,g,h,i,j\nRequire-Bundle: a,b,c,d,e,f,g")) 9 59
  pub many_uses : Refuses (after (codes "Export-Package: a;uses:=\"a,a,a,a,a,a,a,a,a\"")) 9 23
  pub twice_exported : Refuses (after (codes "Export-Package: a" ++ again 15)) 10 23
  pub twice_required : Refuses (after (codes "Require-Bundle: a,b,a")) 10 23
  pub nameless : Refuses (codes "Vendor: x\n\n") 11 10
  pub leading : Refuses (codes "\n") 11 0
  pub doubled : Refuses (codes "Bundle-SymbolicName: a\n\n\n") 11 24
  pub many_bundles : Refuses (many 65) 12 1615
  pub taken : Refuses (after (codes "Bundle-Version: 1\n\nBundle-SymbolicName: a\nBundle-Version: 1.0")) 13 85
