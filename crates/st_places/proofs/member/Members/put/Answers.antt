use Rattle.std.proofs.Common.{◌∙◌, ◌++◌, ◌∷◌, [], ℕ, List, ap, arith, min, sym}
use Rattle.st_places.specs.Members.{IsMember, members_count}
use Rattle.st_places.specs.declared.member.Member.{Member}
use Rattle.st_places.specs.declared.member.Members.{Members}
use Rattle.st_places.proofs.Counts.{declared_count}
use Rattle.st_places.proofs.Members.{members_more}
use Rattle.st_places.proofs.member.Members.put.Goals as goal

pub returns : goal.returns
returns c = λ units vs v named made has.
    let m : Member = record { offset = c.min.result; base = c.args.parts.base; dimensions = c.args.parts.dimensions } in
    let new : Members = record { names = c.push.new.self; items = c.push-2.new.self; count = c.min-self.result } in
    let is : IsMember units (members_count units vs) v m = record { offset = omega (arith, c.min.ensures, has.count); base = made.base; dimensions = made.dimensions } in
    members_more units vs v c.args.self.now new m c.args.parts.count has
    (c.in_ok-push.ensures.ok ∙ ap (λ (name : List ℕ). c.args.self.now.names ++ name ∷ []) (sym named)) c.in_ok-push-2.ensures.ok is
    (made.count ∙ ap (λ n. min n 1000000) (sym (declared_count units v)))
    (omega (arith, c.min-self.ensures, c.saturating_add.ensures))
