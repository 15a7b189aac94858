-- The texts of faults, as the error output gets them.
use Rattle.std.specs.Prelude.{◌++◌, ◌⊎◌, ℕ, List, codes, decimal}
use Rattle.std.proofs.Common.{inl, inr}
use Rattle.act_wkt.specs.declared.fault.WktKind.{WktKind}
use Rattle.act_wkt.specs.declared.fault.WktKind.TheVariants as kind
use Rattle.act_script.specs.Script.{BadLine}
use Rattle.act_script.specs.declared.cutter.CutFault.{CutFault}
use Rattle.act_script.specs.declared.cutter.CutFault.TheVariants as cut
use Rattle.act_script.specs.declared.fault.LineFault.{LineFault}
use Rattle.act_script.specs.declared.fault.LineFault.TheVariants as fault

-- what is wrong with a polygon's text
abbrev pub wkt_name : WktKind → List ℕ
wkt_name kind.Keyword = codes "keyword"
wkt_name kind.Dimension = codes "dimension"
wkt_name kind.OtherType = codes "other type"
wkt_name kind.NoOpen = codes "no open"
wkt_name kind.NoClose = codes "no close"
wkt_name kind.Number = codes "number"
wkt_name kind.Range = codes "range"
wkt_name kind.TooFew = codes "too few points"
wkt_name kind.NotClosed = codes "not closed"
wkt_name kind.Trailing = codes "trailing"
wkt_name kind.Vertices = codes "too many points"

-- why a line says nothing. A bad line never has want of memory for its fault
abbrev pub line_fault_text : LineFault → List ℕ
line_fault_text fault.Kind = codes "unknown record"
line_fault_text fault.Fields = codes "wrong fields"
line_fault_text fault.Key = codes "bad key"
line_fault_text fault.PointId = codes "bad point id"
line_fault_text fault.Threshold = codes "bad threshold"
line_fault_text fault.Number = codes "bad number"
line_fault_text fault.Range = codes "number out of range"
line_fault_text (fault.Wkt kind place) = codes "wkt " ++ wkt_name kind ++ (codes " at " ++ decimal place)
line_fault_text fault.Layers = codes "bad layers"
line_fault_text fault.NoMemory = codes "out of memory"

-- why a line was not cut
abbrev pub cut_fault_text : CutFault → List ℕ
cut_fault_text cut.LineLong = codes "line too long"
cut_fault_text cut.Lines = codes "too many lines"
cut_fault_text cut.NoMemory = codes "out of memory"

abbrev pub fault_text : LineFault ⊎ CutFault → List ℕ
fault_text (inl fault) = line_fault_text fault
fault_text (inr fault) = cut_fault_text fault

-- the text on a bad line
abbrev pub bad_line_text : BadLine → List ℕ
bad_line_text bad = codes "line " ++ decimal bad.number ++ (codes ": " ++ fault_text bad.fault ++ codes "\n")
