-- `aes::AesBlock::round` meets its contract: the steps' equations, one after the other.
use Rattle.std.proofs.Common.{ap, ap₂, ◌∙◌}
use Rattle.aes.specs.Round.{bytes_of, sub_bytes, shift_rows, mix_columns, add_round_key, round_of}
use Rattle.aes.proofs.AesBlock.round.Goals as goal

pub returns : goal.returns
unfolding round_of
returns c =
    c.from_columns-bytes.ensures
    ∙ ap bytes_of
    (c.add_round_key.ensures
    ∙ ap₂ add_round_key
    (c.mix_columns-m.ensures
    ∙ ap mix_columns (c.shift_rows.ensures ∙ ap shift_rows (c.sub_bytes-s.ensures ∙ ap sub_bytes c.to_columns.ensures)))
    c.to_columns-key.ensures)
