-- The types of the code as the definitions have them: a state is its eight blocks of bytes, a mode is the machine's.
-- Assumes nothing.
use Rattle.std.specs.Prelude.{ℕ, List, [], ◌∷◌, ◌++◌, get_or}
use Rattle.machine.specs.Machine.{Mode, enc, dec}
use Rattle.aes.specs.Round.{block_at}
use Rattle.aes.specs.declared.AesBlock.{AesBlock}
use Rattle.aegis128l.specs.declared.state.State.{State}
use Rattle.aegis128l.specs.declared.mode.Mode as code
use Rattle.aegis128l.specs.declared.mode.Mode.TheVariants.{Encrypt, Decrypt}
use Rattle.aegis128l.specs.Aegis128L.{Blocks}

-- what stands past the end of a list of blocks
abbrev pub no_block : AesBlock
no_block = record { bytes = [] }

-- the bytes of block i
abbrev pub bytes_at : List AesBlock → ℕ → List ℕ
bytes_at b i = (get_or b i no_block).bytes

abbrev pub blocks_of : List AesBlock → Blocks
blocks_of b =
    bytes_at b 0 ∷ bytes_at b 1 ∷ bytes_at b 2 ∷ bytes_at b 3 ∷ bytes_at b 4 ∷ bytes_at b 5 ∷ bytes_at b 6 ∷ bytes_at b 7 ∷ []

abbrev pub state_of : State → Blocks
state_of s = blocks_of s.blocks

abbrev pub mode_of : code.Mode → Mode
mode_of Encrypt = enc
mode_of Decrypt = dec

-- two blocks, one behind the other
abbrev pub joined : List ℕ → List ℕ → List ℕ
joined a b = block_at a 0 ++ block_at b 0
