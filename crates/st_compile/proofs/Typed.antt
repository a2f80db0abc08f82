-- The code of a program is that of its typing, and so is what a scan gives.
use Rattle.std.proofs.Common.{◌≡◌, ℕ, List, [], Option, sym, ap, ◌∙◌}
use Rattle.st_check.specs.Programs.{ProgramView, main_of, text_of}
use Rattle.st_types.specs.Names.{Named, units_of}
use Rattle.st_meaning.specs.Meaning.{Values}
use Rattle.st_meaning.specs.Statements.{Setting, body_meaning}
use Rattle.st_meaning.specs.Terms.{Body}
use Rattle.st_meaning.specs.Units.{calls_of, unit_whole}
use Rattle.st_code.specs.Code.{code_of}
use Rattle.st_compile.specs.TypedPrograms.{IsTyped, TypingsAreOne}
use Rattle.st_compile.specs.Programs.{made_of, optional_meaning, program_code, result_in, scan_result, unit_code}
use Rattle.st_compile.specs.Typed.{HasTypedCode, IsMainTyping, typed_result}

module _ (one : TypingsAreOne) (program : ProgramView) where
  abbrev units : List Named
  units = units_of (text_of program)

  main_code : (unit : Named) (body : Body) → IsMainTyping program unit body → program_code program ≡ code_of (unit_whole units unit).variables body
  unfolding program_code
  main_code unit body is =
      ap (made_of (unit_code units) [] (main_of program)) is.main ∙ ap (code_of (unit_whole units unit).variables) (sym (one units (main_of program) unit body is.typing))

  pub typed_code : IsTyped program → HasTypedCode program
  typed_code typed = record {
    typed = typed;
    main = main_code;
    units = λ number unit body at is. ap (code_of (unit_whole units unit).variables) (sym (one units number unit body is));
  }

  pub typed_scan : (unit : Named) (body : Body) → IsMainTyping program unit body → (setting : Setting) (values : Values) (limit : ℕ)
      → typed_result program unit body setting values limit ≡ scan_result program setting values limit
  unfolding scan_result
  typed_scan unit body is setting values limit =
      ap (λ (b : Body). result_in program (body_meaning (calls_of units) (unit_whole units unit).variables setting b values limit)) (one units (main_of program) unit body is.typing)
      ∙ ap (λ (o : Option Named). result_in program (optional_meaning units (main_of program) o setting values limit)) (sym is.main)
