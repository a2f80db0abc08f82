use Rattle.std.proofs.Common.{sym, ◌∙◌, codes, subst, refl}
use Rattle.clap.proofs.WalkLemmas.{first_value-rows}
use Rattle.clap.specs.Words.{rows_of, found_of}
use Rattle.clap.specs.declared.parser.matches.ArgMatches.TheViews.{out-ArgMatches}
use Rattle.st_words.specs.Words.{HasLimit, IsLimitOf}
use Rattle.st_words.specs.declared.words.Order.{Order}
use Rattle.st_words.proofs.Taken.{file_within, limit_within, main_within, order_is, rows_are}
use Rattle.st_words.proofs.words.order_in.Goals as goal

pub returns-in_err-file-clause-none : goal.returns-in_err-file-clause-none
returns-in_err-file-clause-none c =
    let found = found_of c.in_ok-name.inner.now in
    let met = rows_are (out-ArgMatches c.args.matches.now).subcommand c.in_ok-name.name.now (rows_of found) c.in_ok-name.ensures.name c.in_ok-name.ensures.rows in
    λ _ runs. file_within _ _ _ met runs (c.in_err-file.ensures ∙ first_value-rows found (codes "FILE"))

pub returns-in_err-main-clause-none : goal.returns-in_err-main-clause-none
returns-in_err-main-clause-none c =
    let found = found_of c.in_ok-name.inner.now in
    let met = rows_are (out-ArgMatches c.args.matches.now).subcommand c.in_ok-name.name.now (rows_of found) c.in_ok-name.ensures.name c.in_ok-name.ensures.rows in
    λ _ runs. main_within _ _ _ met runs (c.in_err-main.ensures ∙ first_value-rows found (codes "program"))

pub returns-in_err-steps-clause-none : goal.returns-in_err-steps-clause-none
returns-in_err-steps-clause-none c =
    let found = found_of c.in_ok-name.inner.now in
    let met = rows_are (out-ArgMatches c.args.matches.now).subcommand c.in_ok-name.name.now (rows_of found) c.in_ok-name.ensures.name c.in_ok-name.ensures.rows in
    let given = c.get_str-3.ensures ∙ first_value-rows found (codes "steps") in
    λ _ runs. c.in_err-steps.ensures.none refl (subst HasLimit (sym given) (limit_within _ _ _ met runs))

pub returns-clause-some : goal.returns-clause-some
returns-clause-some c =
    let found = found_of c.in_ok-name.inner.now in
    let met = rows_are (out-ArgMatches c.args.matches.now).subcommand c.in_ok-name.name.now (rows_of found) c.in_ok-name.ensures.name c.in_ok-name.ensures.rows in
    let given = c.get_str-3.ensures ∙ first_value-rows found (codes "steps") in
    let order : Order = record { verb = c.in_ok-verb.verb; file = c.in_ok-file.file; main = c.in_ok-main.main; steps = c.in_ok-steps.steps } in
    order_is order _ _ _ met c.in_ok-verb.ensures.some
    (sym (first_value-rows found (codes "FILE")) ∙ sym c.in_ok-file.ensures)
    (sym (first_value-rows found (codes "program")) ∙ sym c.in_ok-main.ensures)
    (subst (λ k. IsLimitOf k c.in_ok-steps.steps) given c.in_ok-steps.ensures.some)
