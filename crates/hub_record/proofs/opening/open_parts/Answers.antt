-- `open_parts` meets its contract: each part is lent where it stands, and the ciphertext is opened there.
use Rattle.std.proofs.Common.{List, ℕ, ap, take, drop, ◌∙◌}
use Rattle.hub_record.proofs.RecordParts.{parts_opened}
use Rattle.hub_record.proofs.opening.open_parts.Goals as goal

pub returns : goal.returns
returns c =
    let p = c.args.text in
    let f = c.split_at_mut-front.ensures in
    let t = c.split_at_mut-ciphertext.ensures in
    parts_opened c.args.input.now p.start p.count c.requires.0 c.requires.1 f.front
    (t.front ∙ ap (λ (x : List ℕ). take p.count x) f.back)
    (t.back ∙ ap (λ (x : List ℕ). drop p.count x) f.back)
    c.aegis128l_open_in_place.ensures
