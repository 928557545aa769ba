use Rattle.std.proofs.Common.{◌≡◌, ◌∙◌, ℕ, Bool, true, false, [], ◌∷◌, length, if◌then◌else◌, ap, refl, sym, arith}
use Rattle.std.specs.Int.{from_bool}
use Rattle.mix_model.specs.Output.{padding}
use Rattle.mix_model.proofs.RoundTrip.{mix_bytes}
use Rattle.mix_model.proofs.wav_file.file_bytes.Goals as goal

one_byte : (odd : Bool) → length {A = ℕ} (if odd then 0 ∷ [] else []) ≡ from_bool odd
one_byte true = refl
one_byte false = refl

pub returns : goal.returns
returns c = λ files.
    let pad : length (padding c.data_size.result) ≡ c.from-2.result =
    ap (λ size. length (padding size)) c.data_size.ensures.value ∙ ap length c.is_padded.ensures ∙ one_byte c.is_padded.result ∙ sym c.from-2.ensures in
    omega (arith, mix_bytes c.args.scene.now files c.data_size.result c.data_size.ensures.scene c.data_size.ensures.value, pad, c.from.ensures)
