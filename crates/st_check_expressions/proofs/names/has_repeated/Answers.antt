use Rattle.std.proofs.Common.{◌∙◌, ap, map}
use Rattle.st_check_expressions.proofs.Repeated.{repeats, repeats_none}
use Rattle.st_check_expressions.proofs.names.has_repeated.Goals as goal

pub names-init : goal.names-init
names-init c = ap (λ seen. repeats seen (map (λ n. n.now) c.args.names.now)) c.new-seen.ensures ∙ repeats_none (map (λ n. n.now) c.args.names.now)
