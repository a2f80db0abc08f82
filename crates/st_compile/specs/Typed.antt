-- Programs by their typing, which has no default: the code of each unit is that of its typing, and a scan is what the typing means.
use Rattle.std.specs.Prelude.{◌≡◌, ℕ, Some, Result}
use Rattle.st_check.specs.Programs.{ProgramView, main_of, text_of}
use Rattle.st_types.specs.Names.{Named, unit_at, units_of}
use Rattle.st_meaning.specs.Meaning.{Values}
use Rattle.st_meaning.specs.Statements.{Setting, body_meaning}
use Rattle.st_meaning.specs.Terms.{Body}
use Rattle.st_meaning.specs.Units.{calls_of, unit_whole}
use Rattle.st_meaning.specs.declared.fault.RunFault.{RunFault}
use Rattle.st_code.specs.Code.{code_of}
use Rattle.st_compile.specs.Bodies.{IsTyping}
use Rattle.st_compile.specs.TypedPrograms.{IsTyped}
use Rattle.st_compile.specs.Programs.{main_unit, program_code, result_in, unit_code}

-- the typing of the main unit
pub record IsMainTyping (program : ProgramView) (unit : Named) (body : Body) : Type 0 where
  pub main : main_unit program ≡ Some unit
  pub typing : IsTyping (units_of (text_of program)) (main_of program) unit body

-- The code of a program is that of its typing: each unit has one, and its code is made of it.
pub record HasTypedCode (program : ProgramView) : Type 0 where
  pub typed : IsTyped program
  pub main : (unit : Named) (body : Body) → IsMainTyping program unit body → program_code program ≡ code_of (unit_whole (units_of (text_of program)) unit).variables body
  pub units : (number : ℕ) (unit : Named) (body : Body) → unit_at (units_of (text_of program)) number ≡ Some unit → IsTyping (units_of (text_of program)) number unit body
      → unit_code (units_of (text_of program)) number unit ≡ code_of (unit_whole (units_of (text_of program)) unit).variables body

-- what a scan gives, by the meaning of the main unit's typing: new values, or a fault
abbrev pub typed_result : ProgramView → Named → Body → Setting → Values → ℕ → Result Values RunFault
typed_result program unit body setting values limit =
    result_in program (body_meaning (calls_of (units_of (text_of program))) (unit_whole (units_of (text_of program)) unit).variables setting body values limit)
