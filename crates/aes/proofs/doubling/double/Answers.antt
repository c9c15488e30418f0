-- `aes::doubling::double` meets its contract: at all 256 bytes by one computed test, on each side of the branch.
-- the highest bit is taken off before the shift, as a byte has no room for it after
use Rattle.std.proofs.Common.{bit_xor, le-ltb, lt-ltb, ltb, rules, ℕ, ◌*◌, ◌-◌, ◌<◌, ◌≡◌}
use Rattle.aes.specs.Field.{pick, xtime}
use Rattle.aes.proofs.Bytes.{agree}
use Rattle.aes.proofs.doubling.double.Goals as goal

doubled : (b : ℕ) → b < 256 → pick (ltb b 128) (b * 2) (bit_xor ((b - 128) * 2) 0x1b) ≡ xtime b
unfolding xtime
doubled b h = agree (λ b. pick (ltb b 128) (b * 2) (bit_xor ((b - 128) * 2) 0x1b)) xtime 256 tt b h

pub returns-then-b-lt128 : goal.returns-then-b-lt128
returns-then-b-lt128 c = simp (lt-ltb _ _ c.if-b-lt128.true) at (doubled c.args.b (search rules))

pub returns-else-b-lt128 : goal.returns-else-b-lt128
returns-else-b-lt128 c = simp (le-ltb _ _ c.if-b-lt128.false) at (doubled c.args.b (search rules))
