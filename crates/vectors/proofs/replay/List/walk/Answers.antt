-- `walk` meets its contract: no record has been replayed at first, and the step adds one.
use Rattle.std.proofs.Common.{◌≡◌, rules, subst, sym}
use Rattle.std.proofs.lemmas.List.{take_rest}
use Rattle.vectors.specs.Tallies.{none}
use Rattle.vectors.specs.Walk.{Walked, start}
use Rattle.vectors.proofs.Tallies.{is_none}
use Rattle.vectors.proofs.Walking.{stepped_of, walked_on, inside_on}
use Rattle.vectors.proofs.replay.List.walk.Goals as goal

pub loop-further-init : goal.loop-further-init
loop-further-init c =
    let none_yet : c.default.result ≡ none = is_none c.default.ensures in
    record {
      walked = subst (Walked c.args.self.now.bytes.now c.args.from c.args.from) (sym none_yet) start;
      small = search rules;
      inside = c.requires;
    }

pub loop-further-preserved : goal.loop-further-preserved
loop-further-preserved c =
    let l = c.args.self.now.bytes.now in
    let here = take_rest l c.loop-further.section.0 in
    record {
      walked = walked_on l (stepped_of _ c.in_ok-further.ensures.step c.in-Some.is) here c.loop-further.invariant.walked;
      small = c.in-Some.further.small;
      inside = inside_on l (stepped_of _ c.in_ok-further.ensures.step c.in-Some.is) here c.loop-further.invariant.inside;
    }
