-- How a verdict is printed.
use Rattle.std.specs.Prelude.{ℕ, List, ◌++◌, codes, decimal}
use Rattle.compare.specs.declared.verdict.Verdict.{Verdict}
use Rattle.compare.specs.declared.verdict.Verdict.TheVariants.{Differ, Equivalent}

-- a word, a space and the number
abbrev pub verdict_text : Verdict → List ℕ
verdict_text (Differ n) = codes "differ " ++ decimal n
verdict_text (Equivalent n) = codes "equivalent " ++ decimal n
