-- What a command comes to, from its words and from the files: the first refusal, or the files that are to be written and
-- the line that is to be printed.
use Rattle.std.specs.Prelude.{◌≡◌, ℕ, ℤ, List, [], ◌∷◌, ◌++◌, map, length, codes, Result, Ok, Err}
use Rattle.std.specs.List.{range_with_len}
use Rattle.std.specs.FinMap.{get}
use Rattle.wave_read.specs.declared.wave.Wave.{Wave}
use Rattle.clip_decode.specs.Limits.{most_sound_bytes}
use Rattle.clip_decode.specs.Pages.{page_count}
use Rattle.scene_model.specs.SceneData.{SceneData}
use Rattle.mix_model.specs.Output.{wav}
use Rattle.mix_model.specs.Mix.{mix}
use Rattle.mix_model.specs.Rendering.{summary_of}
use Rattle.fx_nodes.specs.declared.effect.Effect.{Effect}
use Rattle.fx_render.specs.Effected.{effected_summary, effected_wav, stereo, width}
use Rattle.scene_clips.specs.ClipFrames.{file_rate}
use Rattle.scene_view.specs.Wiring.{wiring}
use Rattle.gen_scene.specs.Script.{script, script_from, script_name}
use Rattle.gen_scene.specs.Sounds.{sounds, sound_file, sound_name}
use Rattle.snd_io.specs.Files.{Files}
use Rattle.snd_status.specs.declared.mix_report.MixReport.{MixReport}
use Rattle.snd_status.specs.declared.status.Status.{Status}
use Rattle.snd_status.specs.declared.status.Status.TheVariants.{Usage}
use Rattle.snd_status.specs.Texts.{mix_text, wave_text, status_text}
use Rattle.snd_tools.specs.Commands.{Program, Command, Mix, Info, Gen, Fx, Render, View, command}
use Rattle.snd_tools.specs.Reading.{◌>>=◌, file_read, scene_read, sound_file_read, sounds_read, surveyed}

-- a file that is to be written
pub record OutputFile : Type 0 where
  pub name : List ℕ
  pub bytes : List ℕ

-- the files, in the order in which they are written, and then the line
pub record Report : Type 0 where
  pub outputs : List OutputFile
  pub line : List ℕ

-- What a command comes to: the first refusal, or a report of this kind. Most commands come to one report alone; one whose
-- output isn't fixed comes to any of a kind.
pub data Outcome : Type 1 where
  Refused : Status → Outcome
  Reports : (Report → Type 0) → Outcome

-- the outcome of a command that comes to one report
abbrev pub comes_to : Result Report Status → Outcome
comes_to (Ok report) = Reports (λ r. r ≡ report)
comes_to (Err status) = Refused status

-- it is refused so
abbrev pub IsRefused : Outcome → Status → Type 0
IsRefused (Refused first) status = first ≡ status
IsRefused (Reports Fits) status = ⊥

-- it isn't refused, and this report is of its kind
abbrev pub MayReport : Outcome → Report → Type 0
MayReport (Refused first) report = ⊥
MayReport (Reports Fits) report = Fits report

-- each text is one line
abbrev pub line : List ℕ → List ℕ
line text = text ++ 10 ∷ []

-- the line of a status
abbrev pub status_line : Status → List ℕ
status_line status = line (status_text status)

-- what is told of a scene that was rendered to these frames
abbrev pub mix_report_of : SceneData → List (List ℤ) → MixReport
mix_report_of scene frames = record {
  frames = scene.length;
  rate = scene.rate;
  channels = scene.channels;
  width = scene.width;
  bytes = length (wav scene frames);
  peak = (summary_of scene frames).peak;
  sum = (summary_of scene frames).sum;
}

-- a scene that was rendered: the bytes of its WAVE file, and the line
pub record Rendering : Type 0 where
  pub file : List ℕ
  pub line : List ℕ

abbrev pub rendering : SceneData → List (List ℤ) → Rendering
rendering scene frames = record { file = wav scene frames; line = line (mix_text (mix_report_of scene frames)) }

-- the scene of SCENE, and then the sound files in the order of its resources
abbrev pub rendered : Files → List ℕ → Result Rendering Status
rendered files name = do
  scene ← scene_read name (get files name)
  sounds ← sounds_read files scene.resources
  Ok (rendering scene (mix scene sounds))

-- the rendering is the file of that name
abbrev pub rendered_to : List ℕ → Rendering → Report
rendered_to out r = record { outputs = record { name = out; bytes = r.file } ∷ []; line = r.line }

-- `mix`, and `render` with every number of workers: OUT is the WAVE file of the scene
abbrev pub mix_outcome : Files → List ℕ → List ℕ → Result Report Status
mix_outcome files scene out = do
  r ← rendered files scene
  Ok (rendered_to out r)

-- `info`: what the file says of its sound
abbrev pub info_line : Wave → List ℕ
info_line w = line (wave_text (record { wave = w; pages = page_count w.frames }))

abbrev pub survey_line : List ℕ → Result (List ℕ) Status
survey_line bytes = do
  w ← surveyed 0 bytes
  Ok (info_line w)

abbrev pub only_line : List ℕ → Report
only_line text = record { outputs = []; line = text }

abbrev pub info_outcome : Files → List ℕ → Result Report Status
info_outcome files file = do
  text ← file_read most_sound_bytes file (get files file) >>= survey_line
  Ok (only_line text)

-- `sceneview`: the picture of the wiring at a frame, which has several lines
abbrev pub picture_at : ℕ → SceneData → Result (List ℕ) Status
picture_at frame scene = Ok (wiring scene frame)

abbrev pub view_outcome : Files → List ℕ → ℕ → Result Report Status
view_outcome files scene frame = do
  text ← scene_read scene (get files scene) >>= picture_at frame
  Ok (only_line text)

-- `fx`: what effects make of the first frames of a file, and the line of a rendering on it
abbrev pub fx_report_of : List ℕ → List Effect → ℕ → MixReport
fx_report_of bytes effects count = record {
  frames = count;
  rate = file_rate bytes;
  channels = stereo;
  width = width;
  bytes = length (effected_wav bytes effects count);
  peak = (effected_summary bytes effects count).peak;
  sum = (effected_summary bytes effects count).sum;
}

abbrev pub fx_rendering : List ℕ → List Effect → ℕ → Rendering
fx_rendering bytes effects count = record { file = effected_wav bytes effects count; line = line (mix_text (fx_report_of bytes effects count)) }

abbrev pub fx_rendered : Files → List ℕ → List Effect → ℕ → Result Rendering Status
fx_rendered files file effects count = do
  bytes ← sound_file_read file (get files file)
  Ok (fx_rendering bytes effects count)

abbrev pub fx_outcome : Files → List ℕ → List ℕ → ℕ → List Effect → Result Report Status
fx_outcome files file out count effects = do
  r ← fx_rendered files file effects count
  Ok (rendered_to out r)

-- `gen`: the sound files of the scene of a number, and then its script
abbrev pub sound_output : ℕ → List ℕ → ℕ → OutputFile
sound_output number prefix i = record { name = sound_name prefix i; bytes = sound_file number i }

-- the first sound files of the scene
unfoldable pub sound_outputs : ℕ → List ℕ → ℕ → List OutputFile
sound_outputs number prefix count = map (sound_output number prefix) (range_with_len 0 count)

-- the script, by the state after the draws of the sounds
abbrev pub script_outputs : ℕ → List ℕ → List OutputFile
script_outputs start prefix = record { name = script_name prefix; bytes = script_from start prefix } ∷ []

abbrev pub gen_outputs : ℕ → List ℕ → List OutputFile
gen_outputs number prefix = sound_outputs number prefix sounds ++ record { name = script_name prefix; bytes = script number prefix } ∷ []

abbrev pub gen_line : List ℕ
gen_line = line (codes "files 9")

abbrev pub gen_outcome : ℕ → List ℕ → Result Report Status
gen_outcome number prefix = Ok (record { outputs = gen_outputs number prefix; line = gen_line })

-- the commands that come to one report alone, as all do so far
abbrev pub command_result : Files → Command → Result Report Status
command_result files (Mix scene out) = mix_outcome files scene out
command_result files (Info file) = info_outcome files file
command_result files (Gen number prefix) = gen_outcome number prefix
command_result files (Fx file out count effects) = fx_outcome files file out count effects
command_result files (Render scene out workers) = mix_outcome files scene out
command_result files (View scene frame) = view_outcome files scene frame

abbrev pub command_outcome : Files → Command → Outcome
command_outcome files command = comes_to (command_result files command)

-- a command, or a word that doesn't fit
abbrev pub commanded : Files → Result Command ℕ → Outcome
commanded files (Ok command) = command_outcome files command
commanded files (Err word) = Refused (Usage word)

-- the outcome of a program
abbrev pub outcome : Program → List (List ℕ) → Files → Outcome
outcome program words files = commanded files (command program words)
