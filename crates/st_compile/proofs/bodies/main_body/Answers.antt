use Rattle.std.proofs.Common.{rules, ◌≡◌, ◌∙◌, Result, Ok, Err, ap, length}
use Rattle.std.specs.Prelude.{IfOk, min}
use Rattle.std.proofs.lemmas.Result.{IfOk-weaker}
use Rattle.st_code.specs.Code.{code_of}
use Rattle.st_meaning.specs.Typing.{body_in}
use Rattle.st_meaning.specs.Units.{statements_of}
use Rattle.st_places.specs.Parts.{whole_in}
use Rattle.st_types.specs.Inside.{named_by}
use Rattle.st_code.specs.Depths.{declared_depth}
use Rattle.st_check.specs.Programs.{text_of}
use Rattle.st_types.specs.Names.{units_of}
use Rattle.st_compile.specs.Programs.{program_code, program_depth, unit_code}
use Rattle.st_compile.specs.declared.bodies.Body.{Body}
use Rattle.st_compile.proofs.Coded.{code_at, main_below, main_code, main_depth, main_small, read_at}
use Rattle.st_compile.proofs.bodies.main_body.Goals as goal

both_ok : {X E : Type 0} (r : Result X E) (P Q R : X → Type 0) → ((x : X) → P x → Q x → R x) → IfOk r P → IfOk r Q → IfOk r R
both_ok (Ok x) P Q R f p q = f x p q
both_ok (Err e) P Q R f p q = tt

pub offset_bounds-units-main : goal.offset_bounds-units-main
offset_bounds-units-main c = search (rules, main_below c.args.program.now c.args.units.now c.requires.units c.main-main.ensures.checked c.main-main.result c.main-main.ensures.main)

pub bounds-units-main : goal.bounds-units-main
bounds-units-main c = main_below c.args.program.now c.args.units.now c.requires.units c.main-main.ensures.checked c.main-main.result c.main-main.ensures.main

pub body_of-requires : goal.body_of-requires
body_of-requires c =
    let below = main_below c.args.program.now c.args.units.now c.requires.units c.main-main.ensures.checked c.main-main.result c.main-main.ensures.main in
    let found = read_at c.args.program.now c.args.units.now c.requires.units c.main-main.result c.index-units-main.result below c.index-units-main.is in
    record { small = main_small c.args.program.now c.main-main.result c.main-main.ensures.main (named_by c.index-units-main.result) found c.args.tables.now c.requires.tables c.main-main.ensures.checked c.checked_program_is_small.ensures }

pub returns-clause-code : goal.returns-clause-code
returns-clause-code c =
    let below = main_below c.args.program.now c.args.units.now c.requires.units c.main-main.ensures.checked c.main-main.result c.main-main.ensures.main in
    let found = read_at c.args.program.now c.args.units.now c.requires.units c.main-main.result c.index-units-main.result below c.index-units-main.is in
    let u = named_by c.index-units-main.result in
    let w = whole_in c.args.tables.now c.main-main.result in
    let code = code_of w.variables (body_in w c.main-main.result (statements_of u.declares)) in
    IfOk-weaker c.body_of.result (λ (body : Body). body.code ≡ code) (λ (body : Body). body.code ≡ program_code c.args.program.now)
    (λ body is. is ∙ code_at c.args.program.now c.args.tables.now c.requires.tables c.main-main.result u found ∙ main_code c.args.program.now c.main-main.result c.main-main.ensures.main u found) c.body_of.ensures.code

pub returns-clause-depth : goal.returns-clause-depth
returns-clause-depth c =
    let below = main_below c.args.program.now c.args.units.now c.requires.units c.main-main.ensures.checked c.main-main.result c.main-main.ensures.main in
    let found = read_at c.args.program.now c.args.units.now c.requires.units c.main-main.result c.index-units-main.result below c.index-units-main.is in
    let u = named_by c.index-units-main.result in
    let w = whole_in c.args.tables.now c.main-main.result in
    let code = code_of w.variables (body_in w c.main-main.result (statements_of u.declares)) in
    both_ok c.body_of.result (λ (body : Body). body.code ≡ code) (λ (body : Body). body.depth ≡ min (declared_depth c.args.inputs u.declares) (length body.code))
    (λ (body : Body). body.depth ≡ program_depth c.args.program.now)
    (λ body is depth. depth ∙ ap (λ ls. min (declared_depth c.args.inputs u.declares) (length ls)) (is ∙ code_at c.args.program.now c.args.tables.now c.requires.tables c.main-main.result u found)
    ∙ ap (λ k. min (declared_depth k u.declares) (length (unit_code (units_of (text_of c.args.program.now)) c.main-main.result u))) c.requires.inputs
    ∙ main_depth c.args.program.now c.main-main.result c.main-main.ensures.main u found)
    c.body_of.ensures.code c.body_of.ensures.depth
