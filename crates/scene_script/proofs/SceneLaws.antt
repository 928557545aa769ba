-- The names of a scene that was read are distinct, and its edits are done.
use Rattle.std.proofs.Common.{◌≡◌, ℕ, ◌+◌, Bool, true, false, ◌||◌, List, [], ◌∷◌, ◌++◌, length, map, Result, Ok, Err, codes, refl, sym, ◌∙◌, ap, subst}
use Rattle.std.specs.Prelude.{if◌then◌else◌}
use Rattle.std.specs.List.{list_any}
use Rattle.std.specs.Str.{bytes_eq}
use Rattle.std.proofs.lemmas.List.{map-append}
use Rattle.toml.specs.Data.{Members}
use Rattle.scene_model.specs.declared.bus_row.BusRow.{BusRow}
use Rattle.scene_model.specs.declared.edit.EditRow.{EditRow}
use Rattle.scene_model.specs.declared.node.Node.{Node}
use Rattle.scene_model.specs.declared.node.NodeKind.{NodeKind}
use Rattle.scene_model.specs.declared.resource.Resource.{Resource}
use Rattle.scene_model.specs.declared.reply.Reply.{Reply}
use Rattle.scene_model.specs.declared.reply.Reply.TheVariants.{Done, NoSuchBus, NoInput, AlreadyAttached, Cycle, NotAttached, GainTooLarge, NotSound}
use Rattle.scene_model.specs.Limits as limits
use Rattle.scene_model.specs.Opening.{unwired}
use Rattle.scene_model.specs.PlanData.{PlanData}
use Rattle.scene_model.specs.Plans.{reply, after, is_done}
use Rattle.scene_model.specs.SceneData.{SceneData}
use Rattle.scene_script.specs.declared.fault.SceneFault.{SceneFault}
use Rattle.scene_script.specs.declared.fault.SceneFault.TheVariants.{DoubleName, EditRefused}
use Rattle.scene_script.specs.declared.fault.TableKind.TheVariants as kinds
use Rattle.scene_script.specs.declared.fault.Which.TheVariants as which
use Rattle.scene_script.specs.declared.node_keys.Activity.{Activity}
use Rattle.scene_script.specs.declared.node_keys.KindWord.{KindWord}
use Rattle.scene_script.specs.declared.node_keys.OwnKeys.{OwnKeys}
use Rattle.scene_script.specs.declared.place.Place.{Place}
use Rattle.scene_script.specs.declared.placed_edit.PlacedEdit.{PlacedEdit}
use Rattle.scene_script.specs.BusRows as bus_rows
use Rattle.scene_script.specs.Checked.{◌>>=◌, each}
use Rattle.scene_script.specs.EditRows as edit_rows
use Rattle.scene_script.specs.Fields.{place, known_keys, name_at}
use Rattle.scene_script.specs.Headers as headers
use Rattle.scene_script.specs.Headers.{Header}
use Rattle.scene_script.specs.SceneLaws.{AreDistinct, AreDone}
use Rattle.scene_script.specs.Wiring.{done, all_done, all_edits, wired}
use Rattle.scene_script.specs.Names.{endpoint}
use Rattle.scene_script.specs.NodeRows as node_rows
use Rattle.scene_script.specs.ResourceRows as resource_rows
use Rattle.scene_script.specs.TableRows.{rows_at}
use Rattle.scene_script.specs.Script.{document, scene_of, scene}

-- a step that gave something was read
pub record Went {A B : Type 0} (r : Result A SceneFault) (next : A → Result B SceneFault) (y : B) : Type 0 where
  pub value : A
  pub is : r ≡ Ok value
  pub rest : next value ≡ Ok y

pub went : {A B : Type 0} (r : Result A SceneFault) (next : A → Result B SceneFault) (y : B) → (r >>= next) ≡ Ok y → Went r next y
went (Ok x) next y e = record { value = x; is = refl; rest = e }
went (Err f) next y e = absurd (cc)

-- what each row keeps, all rows keep
each_keeps : {A B : Type 0} (one : List B → A → Result B SceneFault) (P : List B → Type 0) → ((before : List B) (x : A) (y : B) → one before x ≡ Ok y → P before → P (before ++ y ∷ [])) → (start : List B) (rows : List A) (all : List B) → each one start rows ≡ Ok all → P start → P all
each_keeps {A} {B} one P step start [] all e p = subst P (ok_same start all e) p
  where
    ok_same : (xs ys : List B) → ◌≡◌ {A = Result (List B) SceneFault} (Ok xs) (Ok ys) → xs ≡ ys
    ok_same xs ys e = cc
each_keeps one P step start (x ∷ rows) all e p =
    let w = went (one start x) (λ y. each one (start ++ y ∷ []) rows) all e in
    each_keeps one P step (start ++ w.value ∷ []) rows all w.rest (step start x w.value w.is p)

pub or_first : (a b : Bool) → (a || b) ≡ false → a ≡ false
or_first true b e = e
or_first false b e = refl

pub or_second : (a b : Bool) → (a || b) ≡ false → b ≡ false
or_second true b e = absurd (cc)
or_second false b e = e

none_push : (p : List ℕ → Bool) (names : List (List ℕ)) (y : List ℕ) → list_any p names ≡ false → p y ≡ false → list_any p (names ++ y ∷ []) ≡ false
none_push p [] y none is = ap (λ b. b || false) is
none_push p (x ∷ names) y none is =
    ap (λ b. b || list_any p (names ++ y ∷ [])) (or_first (p x) (list_any p names) none)
    ∙ none_push p names y (or_second (p x) (list_any p names) none) is

distinct_push : (names : List (List ℕ)) (y : List ℕ) → AreDistinct names → list_any (λ x. bytes_eq x y) names ≡ false → AreDistinct (names ++ y ∷ [])
distinct_push [] y distinct new = (refl, tt)
distinct_push (x ∷ names) y distinct new = (
  none_push (bytes_eq x) names y distinct.0 (or_first (bytes_eq x y) (list_any (λ z. bytes_eq z y) names) new),
  distinct_push names y distinct.1 (or_second (bytes_eq x y) (list_any (λ z. bytes_eq z y) names) new),
)

-- resources
abbrev resource_names : List Resource → List (List ℕ)
resource_names resources = map (λ (r : Resource). r.name) resources

any_resource : (name : List ℕ) (resources : List Resource) → list_any (λ (r : Resource). bytes_eq r.name name) resources ≡ list_any (λ x. bytes_eq x name) (resource_names resources)
any_resource name [] = refl
any_resource name (r ∷ resources) = ap (λ b. bytes_eq r.name name || b) (any_resource name resources)

is_new_resource : (p : Place) (before : List Resource) (name : List ℕ) (u : Unit {0}) → resource_rows.new_resource p before name ≡ Ok u → list_any (λ (r : Resource). bytes_eq r.name name) before ≡ false
unfolding resource_rows.new_resource
is_new_resource p before name u e = by_test (list_any (λ (r : Resource). bytes_eq r.name name) before) e
  where
    by_test : (t : Bool) → ◌≡◌ {A = Result (Unit {0}) SceneFault} (if t then Err (DoubleName p.table p.row) else Ok tt) (Ok u) → t ≡ false
    by_test true e = absurd (cc)
    by_test false e = refl

-- what is left of a row to be read, step by step
abbrev then_new : Place → List Resource → List ℕ → List ℕ → Result Resource SceneFault
then_new p before name file = resource_rows.new_resource p before name >>= λ _. Ok (record { name = name; file = file })

abbrev then_file : Place → List Resource → Members → List ℕ → Result Resource SceneFault
then_file p before ms name = resource_rows.file_at p ms >>= then_new p before name

abbrev then_name : Place → List Resource → Members → Result Resource SceneFault
then_name p before ms = name_at p (codes "name") ms >>= then_file p before ms

resource_new : (before : List Resource) (ms : Members) (r : Resource) → resource_rows.resource_row before ms ≡ Ok r → list_any (λ (x : Resource). bytes_eq x.name r.name) before ≡ false
unfolding resource_rows.resource_row
resource_new before ms r e =
    let p : Place = place kinds.Resource (length before + 1) in
    let known = went (known_keys p (codes "name" ∷ codes "file" ∷ []) ms) (λ _. then_name p before ms) r e in
    let name = went (name_at p (codes "name") ms) (then_file p before ms) r known.rest in
    let file = went (resource_rows.file_at p ms) (then_new p before name.value) r name.rest in
    let read : Resource = record { name = name.value; file = file.value } in
    let new = went (resource_rows.new_resource p before name.value) (λ _. Ok read) r file.rest in
    let same : name.value ≡ r.name = name_same name.value file.value r new.rest in
    subst (λ (n : List ℕ). list_any (λ (x : Resource). bytes_eq x.name n) before ≡ false) same (is_new_resource p before name.value new.value new.is)
  where
    name_same : (n f : List ℕ) (r : Resource) → ◌≡◌ {A = Result Resource SceneFault} (Ok (record { name = n; file = f })) (Ok r) → n ≡ r.name
    name_same n f r e = cc

resources_distinct : (rows : List Members) (all : List Resource) → resource_rows.resource_rows rows ≡ Ok all → AreDistinct (resource_names all)
resources_distinct rows all e = each_keeps resource_rows.resource_row (λ rs. AreDistinct (resource_names rs)) step [] rows all e tt
  where
    step : (before : List Resource) (ms : Members) (r : Resource) → resource_rows.resource_row before ms ≡ Ok r → AreDistinct (resource_names before) → AreDistinct (resource_names (before ++ r ∷ []))
    step before ms r e distinct =
        subst AreDistinct (sym (map-append (λ (x : Resource). x.name) before (r ∷ []))) (distinct_push (resource_names before) r.name distinct (sym (any_resource r.name before) ∙ resource_new before ms r e))

-- nodes
abbrev node_names : List Node → List (List ℕ)
node_names nodes = map (λ (n : Node). n.name) nodes

any_node : (name : List ℕ) (nodes : List Node) → list_any (λ (n : Node). bytes_eq n.name name) nodes ≡ list_any (λ x. bytes_eq x name) (node_names nodes)
any_node name [] = refl
any_node name (n ∷ nodes) = ap (λ b. bytes_eq n.name name || b) (any_node name nodes)

is_new_node : (p : Place) (before : List Node) (name : List ℕ) (u : Unit {0}) → node_rows.new_node p before name ≡ Ok u → (bytes_eq name endpoint || list_any (λ (n : Node). bytes_eq n.name name) before) ≡ false
unfolding node_rows.new_node
is_new_node p before name u e = by_test (bytes_eq name endpoint || list_any (λ (n : Node). bytes_eq n.name name) before) e
  where
    by_test : (t : Bool) → ◌≡◌ {A = Result (Unit {0}) SceneFault} (if t then Err (DoubleName p.table p.row) else Ok tt) (Ok u) → t ≡ false
    by_test true e = absurd (cc)
    by_test false e = refl

-- what is left of a row to be read, step by step
abbrev node_of : List ℕ → Activity → NodeKind → Node
node_of name active kind = record { name = name; kind = kind; started = active.started; from = active.from; until = active.until }

abbrev then_kind : Place → List ℕ → OwnKeys → Activity → Result Node SceneFault
then_kind p name own active = node_rows.kind_of p own >>= λ kind. Ok (node_of name active kind)

abbrev then_new_node : Place → List Node → List ℕ → OwnKeys → Activity → Result Node SceneFault
then_new_node p before name own active = node_rows.new_node p before name >>= λ _. then_kind p name own active

abbrev then_active : Place → List Node → Members → List ℕ → OwnKeys → Result Node SceneFault
then_active p before ms name own = node_rows.activity p ms >>= then_new_node p before name own

abbrev then_own : Place → List Resource → List Node → Members → KindWord → List ℕ → Result Node SceneFault
then_own p resources before ms word name = node_rows.own_keys p resources word ms >>= then_active p before ms name

abbrev then_node_name : Place → List Resource → List Node → Members → KindWord → Result Node SceneFault
then_node_name p resources before ms word = name_at p (codes "name") ms >>= then_own p resources before ms word

same_name : (m n : Node) → ◌≡◌ {A = Result Node SceneFault} (Ok m) (Ok n) → m.name ≡ n.name
same_name m n e = ap (λ (x : Node). x.name) same
  where
    same : m ≡ n
    same = cc e

new_as : (before : List Node) (x y : List ℕ) → x ≡ y → (bytes_eq x endpoint || list_any (λ (n : Node). bytes_eq n.name x) before) ≡ false → (bytes_eq y endpoint || list_any (λ (n : Node). bytes_eq n.name y) before) ≡ false
new_as before x y same new =
    subst (λ (z : List ℕ). (bytes_eq z endpoint || list_any (λ (n : Node). bytes_eq n.name z) before) ≡ false) same new

node_new : (resources : List Resource) (before : List Node) (ms : Members) (n : Node) → node_rows.node_row resources before ms ≡ Ok n → (bytes_eq n.name endpoint || list_any (λ (x : Node). bytes_eq x.name n.name) before) ≡ false
unfolding node_rows.node_row
node_new resources before ms n e =
    let p : Place = place kinds.Node (length before + 1) in
    let word = went (node_rows.kind_word p ms) (then_node_name p resources before ms) n e in
    let name = went (name_at p (codes "name") ms) (then_own p resources before ms word.value) n word.rest in
    let own = went (node_rows.own_keys p resources word.value ms) (then_active p before ms name.value) n name.rest in
    let active = went (node_rows.activity p ms) (then_new_node p before name.value own.value) n own.rest in
    let new = went (node_rows.new_node p before name.value) (λ _. then_kind p name.value own.value active.value) n active.rest in
    let kind = went (node_rows.kind_of p own.value) (λ kind. Ok (node_of name.value active.value kind)) n new.rest in
    let same = same_name (node_of name.value active.value kind.value) n kind.rest in
    new_as before name.value n.name same (is_new_node p before name.value new.value new.is)

-- distinct, and none is that of the endpoint
record AreNodeNames (names : List (List ℕ)) : Type 0 where
  distinct : AreDistinct names
  no_endpoint : list_any (λ x. bytes_eq x endpoint) names ≡ false

nodes_named : (resources : List Resource) (rows : List Members) (all : List Node) → node_rows.node_rows resources rows ≡ Ok all → AreNodeNames (node_names all)
nodes_named resources rows all e = each_keeps (node_rows.node_row resources) (λ ns. AreNodeNames (node_names ns)) step [] rows all e (record { distinct = tt; no_endpoint = refl })
  where
    step : (before : List Node) (ms : Members) (n : Node) → node_rows.node_row resources before ms ≡ Ok n → AreNodeNames (node_names before) → AreNodeNames (node_names (before ++ n ∷ []))
    step before ms n e names =
        let new = node_new resources before ms n e in
        let taken = or_second (bytes_eq n.name endpoint) (list_any (λ (x : Node). bytes_eq x.name n.name) before) new in
        subst AreNodeNames (sym (map-append (λ (x : Node). x.name) before (n ∷ [])))
        (record {
          distinct = distinct_push (node_names before) n.name names.distinct (sym (any_node n.name before) ∙ taken);
          no_endpoint = none_push (λ x. bytes_eq x endpoint) (node_names before) n.name names.no_endpoint (or_first (bytes_eq n.name endpoint) _ new);
        })

-- edits
reply_done : (r : Reply) → is_done r ≡ true → r ≡ Done
reply_done Done e = refl
reply_done NoSuchBus e = absurd (cc)
reply_done NoInput e = absurd (cc)
reply_done (AlreadyAttached to) e = absurd (cc)
reply_done (Cycle node) e = absurd (cc)
reply_done NotAttached e = absurd (cc)
reply_done GainTooLarge e = absurd (cc)
reply_done NotSound e = absurd (cc)

are_done : (plan : PlanData) (edits : List PlacedEdit) (u : Unit {0}) → all_done plan edits ≡ Ok u → AreDone plan edits
are_done plan [] u e = tt
are_done plan (x ∷ edits) u e =
    let w = went (done plan x) (λ _. all_done (after plan x.edit) edits) u e in
    (reply_done (reply plan x.edit) (by_test (is_done (reply plan x.edit)) w.value w.is), are_done (after plan x.edit) edits u w.rest)
  where
    by_test : (t : Bool) (v : Unit {0}) → ◌≡◌ {A = Result (Unit {0}) SceneFault} (if t then Ok tt else Err (EditRefused x.place.table x.place.row (reply plan x.edit))) (Ok v) → t ≡ true
    by_test true v e = refl
    by_test false v e = absurd (cc)

-- a scene, by its parts
record Parts (s : SceneData) : Type 0 where
  resource_tables : List Members
  resources_are : resource_rows.resource_rows resource_tables ≡ Ok s.resources
  node_tables : List Members
  nodes_are : node_rows.node_rows s.resources node_tables ≡ Ok s.nodes
  is_wired : wired s.nodes s.buses s.edits ≡ Ok tt

-- what is left of a scene to be read, step by step
abbrev scene_from : Header → List Resource → List Node → List BusRow → List EditRow → SceneData
scene_from h resources nodes buses edits = record { version = limits.version; rate = h.rate; channels = h.channels; width = h.width; length = h.length; resources = resources; nodes = nodes; buses = buses; edits = edits }

abbrev then_wired : Header → List Resource → List Node → List BusRow → List EditRow → Result SceneData SceneFault
then_wired h resources nodes buses edits = wired nodes buses edits >>= λ _. Ok (scene_from h resources nodes buses edits)

abbrev then_edits : Header → List Resource → List Node → Members → List BusRow → Result SceneData SceneFault
then_edits h resources nodes ms buses = edit_rows.edits nodes ms >>= then_wired h resources nodes buses

abbrev then_buses : Header → List Resource → Members → List Node → Result SceneData SceneFault
then_buses h resources ms nodes = bus_rows.buses nodes ms >>= then_edits h resources nodes ms

abbrev then_nodes : Header → Members → List Resource → Result SceneData SceneFault
then_nodes h ms resources = node_rows.nodes resources ms >>= then_buses h resources ms

abbrev then_resources : Members → Header → Result SceneData SceneFault
then_resources ms h = resource_rows.resources ms >>= then_nodes h ms

-- the rows that gave the resources, and those that gave the nodes
record RowsOf {A : Type 0} (rows_read : List Members → Result A SceneFault) (all : A) : Type 0 where
  rows : List Members
  rows_are : rows_read rows ≡ Ok all

resource_tables : (ms : Members) (all : List Resource) → resource_rows.resources ms ≡ Ok all → RowsOf resource_rows.resource_rows all
unfolding resource_rows.resources
resource_tables ms all e =
    let rows = went (rows_at kinds.Resource (codes "resource") which.Resources limits.most_resources ms) resource_rows.resource_rows all e in
    record { rows = rows.value; rows_are = rows.rest }

node_tables : (resources : List Resource) (ms : Members) (all : List Node) → node_rows.nodes resources ms ≡ Ok all → RowsOf (node_rows.node_rows resources) all
unfolding node_rows.nodes
node_tables resources ms all e =
    let few = λ (read : List Node). node_rows.few_buses read >>= λ _. Ok read in
    let rows = went (rows_at kinds.Node (codes "node") which.Nodes limits.most_nodes ms) (λ rows. node_rows.node_rows resources rows >>= few) all e in
    let read = went (node_rows.node_rows resources rows.value) few all rows.rest in
    let same = went (node_rows.few_buses read.value) (λ _. Ok read.value) all read.rest in
    record { rows = rows.value; rows_are = read.is ∙ same.rest }

parts_of : (ms : Members) (s : SceneData) → scene_of ms ≡ Ok s → Parts s
unfolding scene_of
parts_of ms s e =
    let header = went (headers.header ms) (then_resources ms) s e in
    let resources = went (resource_rows.resources ms) (then_nodes header.value ms) s header.rest in
    let nodes = went (node_rows.nodes resources.value ms) (then_buses header.value resources.value ms) s resources.rest in
    let buses = went (bus_rows.buses nodes.value ms) (then_edits header.value resources.value nodes.value ms) s nodes.rest in
    let edits = went (edit_rows.edits nodes.value ms) (then_wired header.value resources.value nodes.value buses.value) s buses.rest in
    let whole = scene_from header.value resources.value nodes.value buses.value edits.value in
    let made = went (wired nodes.value buses.value edits.value) (λ _. Ok whole) s edits.rest in
    let r = resource_tables ms resources.value resources.is in
    let n = node_tables resources.value ms nodes.value nodes.is in
    let parts : Parts whole = record { resource_tables = r.rows; resources_are = r.rows_are; node_tables = n.rows; nodes_are = n.rows_are; is_wired = made.is } in
    subst Parts (same_scene whole s made.rest) parts
  where
    same_scene : (a b : SceneData) → ◌≡◌ {A = Result SceneData SceneFault} (Ok a) (Ok b) → a ≡ b
    same_scene a b e = cc

scene_parts : (text : List ℕ) (s : SceneData) → scene text ≡ Ok s → Parts s
unfolding scene
scene_parts text s e = let w = went (document text) scene_of s e in parts_of w.value s w.rest

pub resource_names_distinct : (text : List ℕ) (s : SceneData) → scene text ≡ Ok s → AreDistinct (resource_names s.resources)
resource_names_distinct text s e = let p = scene_parts text s e in resources_distinct p.resource_tables s.resources p.resources_are

pub node_names_distinct : (text : List ℕ) (s : SceneData) → scene text ≡ Ok s → AreDistinct (node_names s.nodes ++ endpoint ∷ [])
node_names_distinct text s e =
    let p = scene_parts text s e in
    let names = nodes_named s.resources p.node_tables s.nodes p.nodes_are in
    distinct_push (node_names s.nodes) endpoint names.distinct names.no_endpoint

pub edits_done : (text : List ℕ) (s : SceneData) → scene text ≡ Ok s → AreDone (unwired s.nodes) (all_edits s.buses s.edits)
unfolding wired
edits_done text s e = let p = scene_parts text s e in are_done (unwired s.nodes) (all_edits s.buses s.edits) tt p.is_wired
