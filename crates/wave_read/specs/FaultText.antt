-- The text of a fault: its name and then its fields in order, each after a space. Numbers are decimal.
use Rattle.std.specs.Prelude.{ℕ, List, ◌++◌, codes}
use Rattle.std.specs.Fmt.{decimal}
use Rattle.wave_read.specs.declared.wave_fault.WaveFault.{WaveFault}
use Rattle.wave_read.specs.declared.wave_fault.WaveFault.TheVariants.{NotRiff, NotWave, Ds64Missing, ChunkPastEnd, NoFmt, FmtShort, Unsupported, Channels, Rate, Width, ImaAlign, StepIndex, NoData}

abbrev pub fault_text : WaveFault → List ℕ
fault_text NotRiff = codes "NotRiff"
fault_text NotWave = codes "NotWave"
fault_text Ds64Missing = codes "Ds64Missing"
fault_text (ChunkPastEnd at) = codes "ChunkPastEnd " ++ decimal at
fault_text NoFmt = codes "NoFmt"
fault_text (FmtShort len) = codes "FmtShort " ++ decimal len
fault_text (Unsupported tag) = codes "Unsupported " ++ decimal tag
fault_text (Channels n) = codes "Channels " ++ decimal n
fault_text (Rate n) = codes "Rate " ++ decimal n
fault_text (Width bits align) = codes "Width " ++ decimal bits ++ codes " " ++ decimal align
fault_text (ImaAlign align) = codes "ImaAlign " ++ decimal align
fault_text (StepIndex block channel found) =
    codes "StepIndex " ++ decimal block ++ codes " " ++ decimal channel ++ codes " " ++ decimal found
fault_text NoData = codes "NoData"
