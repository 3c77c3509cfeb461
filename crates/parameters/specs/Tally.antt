-- What a `Tally` counts.
use Rattle.std.specs.Prelude.{◌≡◌, ◌+◌, ◌^◌, ◌<◌, List, ◌++◌, length, codes, decimal}
use Rattle.datatypes.specs.Meaning.{Bytes}
use Rattle.parameters.specs.declared.tally.Tally.{Tally}
use Rattle.parameters.specs.Report.{tallied}

-- How many lines there are, and how many of each outcome.
pub record Counts (t : Tally) (ls : List Bytes) : Type 0 where
  pub lines : t.lines ≡ length ls
  pub same : t.same ≡ tallied 1 ls
  pub different : t.different ≡ tallied 2 ls
  pub not_compared : t.not_compared ≡ tallied 0 ls

-- A line more can be counted, whatever its outcome.
pub record HasRoom (t : Tally) : Type 0 where
  pub lines : t.lines + 1 < 2 ^ 64
  pub same : t.same + 1 < 2 ^ 64
  pub different : t.different + 1 < 2 ^ 64
  pub not_compared : t.not_compared + 1 < 2 ^ 64

-- What is printed of a tally.
abbrev pub tally_text : Tally → Bytes
tally_text t =
    decimal t.lines ++ (codes " lines: " ++ (decimal t.same ++ (codes " same, " ++ (decimal t.different ++ (codes " different, " ++ (decimal t.not_compared ++ codes " not compared"))))))
