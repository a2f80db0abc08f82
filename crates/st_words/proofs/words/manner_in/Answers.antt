use Rattle.std.proofs.Common.{◌∙◌, codes}
use Rattle.clap.proofs.WalkLemmas.{one_text-rows}
use Rattle.clap.specs.Words.{found_of, rows_of}
use Rattle.clap.specs.declared.parser.matches.ArgMatches.TheViews.{out-ArgMatches}
use Rattle.st_words.proofs.Taken.{manner_is, rows_are}
use Rattle.st_words.proofs.words.manner_in.Goals as goal

pub returns-in-Some : goal.returns-in-Some
returns-in-Some c =
    let found = found_of c.in-Some.inner.now in
    let met = rows_are (out-ArgMatches c.args.matches.now).subcommand c.in-Some._name.now (rows_of found) c.in-Some.ensures.name c.in-Some.ensures.rows in
    manner_is _ _ _ _ met
    (λ given. c.get_flag.ensures.value (one_text-rows found (codes "quiet") ∙ given), λ given. c.get_flag.ensures.other (one_text-rows found (codes "quiet") ∙ given), λ given. c.get_flag.ensures.none (one_text-rows found (codes "quiet") ∙ given))
    (λ given. c.get_flag-in-Some.ensures.value (one_text-rows found (codes "all") ∙ given), λ given. c.get_flag-in-Some.ensures.other (one_text-rows found (codes "all") ∙ given), λ given. c.get_flag-in-Some.ensures.none (one_text-rows found (codes "all") ∙ given))
