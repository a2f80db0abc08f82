-- Which charts code is about: that of the unit that it is of.
use Rattle.std.specs.Prelude.{ℕ, Bool, IsTrue, Option, Some, None}
use Rattle.std.specs.List.{All}
use Rattle.st_types.specs.Compositions.{Composition}
use Rattle.st_meaning.specs.Terms.{Body, plain_body, chart_body}
use Rattle.st_code.specs.Code.{code_of}
use Rattle.st_code.specs.declared.instr.Instr.{Instr}
use Rattle.st_code.specs.declared.instr.Instr.TheVariants.{Times, Ask, Chart}

-- the unit whose chart an instruction is about
abbrev pub chart_of : Instr → Option ℕ
chart_of (Times unit leaf) = Some unit
chart_of (Ask unit leaf number) = Some unit
chart_of (Chart unit leaf) = Some unit
chart_of i = None

-- the test is of a unit's number
abbrev pub ChartTest : Type 0
ChartTest = ℕ → Bool

-- if the instruction is about a chart, its unit passes the test
abbrev pub ChartsWhere : ChartTest → Instr → Type 0
ChartsWhere test (Times unit leaf) = IsTrue (test unit)
ChartsWhere test (Ask unit leaf number) = IsTrue (test unit)
ChartsWhere test (Chart unit leaf) = IsTrue (test unit)
ChartsWhere test i = Unit {0}

-- if the body is a chart, its unit does
abbrev pub IsChartWhere : ChartTest → Body → Type 0
IsChartWhere test (plain_body cs) = Unit {0}
IsChartWhere test (chart_body unit _ _ _) = IsTrue (test unit)

abbrev pub CodeIsOfItsChart : Type 0
CodeIsOfItsChart = (root : Composition) (test : ChartTest) (body : Body) → IsChartWhere test body → All (λ l. ChartsWhere test l.instr) (code_of root body)
