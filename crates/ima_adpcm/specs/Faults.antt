-- What decoding a block answers.
use Rattle.std.specs.Prelude.{ℕ, ◌*◌, List, ◌++◌, codes, length, Bool, nat_lt, Option, Result, Ok, Err, find, if◌then◌else◌}
use Rattle.std.specs.Option.{option_map, option_map_or}
use Rattle.std.specs.List.{range_with_len}
use Rattle.std.specs.Fmt.{decimal}
use Rattle.ima_adpcm.specs.declared.fault.ImaFault.{ImaFault}
use Rattle.ima_adpcm.specs.declared.fault.ImaFault.TheVariants.{StepIndex}
use Rattle.ima_adpcm.specs.Quantizer.{last_index}
use Rattle.ima_adpcm.specs.Blocks.{word_bytes, header_index, block_frames}

-- the text of a fault, with decimal numbers
abbrev pub fault_text : ImaFault → List ℕ
fault_text (StepIndex channel found) =
    codes "channel " ++ decimal channel ++ codes " has step index " ++ decimal found ++ codes ", above 88"

-- the header of channel c has a step index that the table lacks
abbrev pub is_faulty : List ℕ → ℕ → Bool
is_faulty bytes c = nat_lt last_index (header_index bytes c)

-- the fault of the first such channel
unfoldable pub first_fault : List ℕ → ℕ → Option ImaFault
first_fault bytes ch =
    option_map (λ c. StepIndex c (header_index bytes c)) (find (is_faulty bytes) (range_with_len 0 ch))

-- none for a block without all its headers; else the first fault; else the number of the block's frames
unfoldable pub block_answer : List ℕ → ℕ → Result ℕ ImaFault
block_answer bytes ch =
    if nat_lt (length bytes) (word_bytes * ch) then Ok 0
    else option_map_or (λ fault. Err fault) (first_fault bytes ch) (Ok (block_frames (length bytes) ch))
