-- What the crate's own types stand for.
use Rattle.std.specs.Prelude.{◌≡◌, List, ◌++◌, Some, None, Option, codes, true}
use Rattle.datatypes.specs.Meaning.{Bytes}
use Rattle.datatypes.specs.declared.comparison.Comparison.{Comparison}
use Rattle.datatypes.specs.declared.comparison.Comparison.TheVariants.{Same, Different}
use Rattle.parameters.specs.declared.finding.Finding.{Finding}
use Rattle.parameters.specs.declared.finding.Finding.TheVariants.{NotThreeFields, NoType, Compared}
use Rattle.parameters.specs.declared.reporting.ReportWriter.{ReportWriter}
use Rattle.parameters.specs.declared.rows.ParameterRow.{ParameterRow}
use Rattle.parameters.specs.Report.{lines_text, verdict}
use Rattle.parameters.specs.Rows.{Row}
use Rattle.parameters.specs.Tally.{Counts}

-- The row that a `ParameterRow` points to.
abbrev pub named : ParameterRow → Row
named r = record { name = r.name.now; left = r.left.now; right = r.right.now }

-- The comparison that a `Finding` has, if any.
abbrev pub comparison_of : Finding → Option Comparison
comparison_of NotThreeFields = None
comparison_of (NoType name) = None
comparison_of (Compared name c) = Some c

-- What is written of a comparison behind the name of the type.
abbrev pub comparison_text : Comparison → Bytes
comparison_text Same = verdict 1 (true, true)
comparison_text (Different l r) = verdict 2 (l, r)

-- The text of a `Finding`.
abbrev pub finding_text : Finding → Bytes
finding_text NotThreeFields = codes "not three fields"
finding_text (NoType name) = codes "no type " ++ name.now
finding_text (Compared name c) = name.now ++ comparison_text c

-- A `ReportWriter` has the text on a list of lines, and their tally. The list is no field of it, so that no invariant of the type can say this.
pub record IsReportOn (ls : List Bytes) (r : ReportWriter) : Type 0 where
  pub text : r.text.items ≡ lines_text 1 ls
  pub tally : Counts r.tally ls
