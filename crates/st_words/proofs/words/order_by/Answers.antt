use Rattle.clap.proofs.TakesLemmas.{passed_up}
use Rattle.std.proofs.Common.{Err, Ok, inl, inr, map, refl, subst, sym}
use Rattle.clap.specs.declared.parser.matches.ArgMatches.{ArgMatches}
use Rattle.st_words.specs.Words.{IsManner, IsOrder, IsRunnable}
use Rattle.st_words.proofs.Taken.{chosen_in, fails_by, taken_by, in_order_runs}
use Rattle.st_words.proofs.words.order_by.Goals as goal

pub returns-in_err-matches-clause-memory : goal.returns-in_err-matches-clause-memory
returns-in_err-matches-clause-memory g c =
    let words = map g.S.AsStr.text c.args.words.now in
    passed_up c.from_residual.result c.in_err-matches.field-0.0 _ c.from_residual.ensures.1
    (λ right. c.in_err-matches.ensures.passes (taken_by _ words c.requires right.0))

pub returns-clause-memory : goal.returns-clause-memory
returns-clause-memory g c =
    let words = map g.S.AsStr.text c.args.words.now in
    let chosen = chosen_in _ words c.in_ok-matches.matches c.requires c.in_ok-matches.ensures.ok.2 in
    λ right. absurd (c.in-None.ensures.none refl (subst IsRunnable (sym chosen) (in_order_runs words right)))

pub returns-in-Some-clause-order : goal.returns-in-Some-clause-order
returns-in-Some-clause-order g c =
    let words = map g.S.AsStr.text c.args.words.now in
    let chosen = chosen_in _ words c.in_ok-matches.matches c.requires c.in_ok-matches.ensures.ok.2 in
    subst (IsOrder c.in-Some.order) chosen c.in-Some.ensures.some

pub returns-in-Some-clause-manner : goal.returns-in-Some-clause-manner
returns-in-Some-clause-manner g c =
    let words = map g.S.AsStr.text c.args.words.now in
    let chosen = chosen_in _ words c.in_ok-matches.matches c.requires c.in_ok-matches.ensures.ok.2 in
    subst (IsManner c.manner_in.result) chosen c.manner_in.ensures

pub returns-in_err-matches-clause-fault : goal.returns-in_err-matches-clause-fault
returns-in_err-matches-clause-fault g c =
    let words = map g.S.AsStr.text c.args.words.now in
    passed_up c.from_residual.result c.in_err-matches.field-0.0 _ c.from_residual.ensures.1
    (inl (fails_by {T = ArgMatches} _ words (Err c.in_err-matches.field-0.0) c.requires c.in_err-matches.ensures.kinds))

pub returns-in-Some-clause-faultless : goal.returns-in-Some-clause-faultless
returns-in-Some-clause-faultless g c =
    let words = map g.S.AsStr.text c.args.words.now in
    fails_by {T = ArgMatches} _ words (Ok c.in_ok-matches.matches) c.requires c.in_ok-matches.ensures.kinds

pub returns-clause-fault : goal.returns-clause-fault
returns-clause-fault g c =
    let words = map g.S.AsStr.text c.args.words.now in
    inr (fails_by {T = ArgMatches} _ words (Ok c.in_ok-matches.matches) c.requires c.in_ok-matches.ensures.kinds, c.in_ok-limit_error-in-None.ensures)
