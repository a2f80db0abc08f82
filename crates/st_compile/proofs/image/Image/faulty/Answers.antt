use Rattle.std.proofs.Common.{◌≡◌, ℕ, [], Option, Some, None, refl, ap, sym, ◌∙◌, subst, length}
use Rattle.std.specs.Option.{IfSome, unwrap_or}
use Rattle.std.proofs.lemmas.Bool.{ltb-false, ltb-true}
use Rattle.st_check.specs.Programs.{main_of}
use Rattle.st_compile.specs.Programs.{faulty, program_names}
use Rattle.st_compile.proofs.Coded.{faulty_none, faulty_some}
use Rattle.st_compile.proofs.image.Image.faulty.Goals as goal

number_is : (unit : Option ℕ) (n main : ℕ) → n ≡ main → unwrap_or unit n ≡ faulty main unit
number_is None n main is = is
number_is (Some number) n main is = refl

pub returns-in-Some : goal.returns-in-Some
returns-in-Some c =
    let names = c.self.invariant.5 in
    let view = c.self.view_is in
    let are : c.self.inside.names.items ≡ program_names c.args.self.now = cc in
    let number : c.unwrap_or-number.result ≡ faulty (main_of c.args.self.now) c.args.unit =
    c.unwrap_or-number.ensures ∙ number_is c.args.unit c.main.result (main_of c.args.self.now) (c.main.ensures.main ∙ ap main_of c.self.view_is) in
    let found = c.in-Some.ensures.lookup in
    faulty_some c.args.self.now c.deref.result.now (c.deref.ensures.value ∙ are) c.args.unit c.unwrap_or-number.result number c.in-Some.name.now
    (ltb-true c.unwrap_or-number.result (length c.deref.result.now) (sym found.0)) found.1

pub returns-in-None : goal.returns-in-None
returns-in-None c =
    let names = c.self.invariant.5 in
    let view = c.self.view_is in
    let are : c.self.inside.names.items ≡ program_names c.args.self.now = cc in
    let number : c.unwrap_or-number.result ≡ faulty (main_of c.args.self.now) c.args.unit =
    c.unwrap_or-number.ensures ∙ number_is c.args.unit c.main.result (main_of c.args.self.now) (c.main.ensures.main ∙ ap main_of c.self.view_is) in
    let missing = c.in-None.ensures.lookup in
    subst (λ o. IfSome o (λ name. name ≡ [])) c.unwrap.ensures c.of.ensures.name
    ∙ faulty_none c.args.self.now c.deref.result.now (c.deref.ensures.value ∙ are) c.args.unit c.unwrap_or-number.result number
    (ltb-false c.unwrap_or-number.result (length c.deref.result.now) (sym missing.0))
