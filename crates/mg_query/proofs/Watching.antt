-- What an aggregate asks for, taken apart as the rules do and as the code does.
use Rattle.std.proofs.Common.{◌≡◌, ℕ, Bool, true, false, List, [], ◌∷◌, Option, Some, None, option_map, option_and_then, is_some, codes, map, refl, sym, ap, ◌∙◌, if◌then◌else◌}
use Rattle.std.specs.Str.{bytes_eq}
use Rattle.mg_bson.specs.Tree.{Fields, no_fields, field, Items, no_items, item}
use Rattle.mg_bson.specs.Find.{as_document, get}
use Rattle.mg_bson.specs.Reading.{◌>>=◌}
use Rattle.mg_link.specs.Namespace.{Target}
use Rattle.mg_server.specs.Filter.{Condition, conditions_of}
use Rattle.mg_server.specs.State.{Start}
use Rattle.mg_server.specs.Commands.{batch_size, documents_in, filter_stages, flag_or, has_only, match_stage, pipeline_fields, start_of, watch_stage_options}
use Rattle.mg_server.specs.Rules as rules
use Rattle.mg_server.specs.Rules.{array_at, behind_first, option_names, target_at, watch_options, watch_request, watch_with}
use Rattle.mg_query.specs.Asking.{Keyed, keyed, only_document}
use Rattle.mg_query.specs.Wanted.{wanted, watch, Stages, Opening, conditions_at, opening_of, opening_with, stages_of}

watch_stage_options-is : (fs : Fields) → watch_stage_options fs ≡ only_document (codes "$changeStream") fs
watch_stage_options-is no_fields = refl
watch_stage_options-is (field k t no_fields) = refl
watch_stage_options-is (field k t (field l u fs)) = refl

match_by : (b : Bool) (o : Option Fields) → (if b then option_and_then conditions_of o else None) ≡ option_and_then conditions_of (if b then o else None)
match_by true o = refl
match_by false o = refl

match_stage-is : (fs : Fields) → match_stage fs ≡ option_and_then conditions_of (only_document (codes "$match") fs)
match_stage-is no_fields = refl
match_stage-is (field k t no_fields) = match_by (bytes_eq k (codes "$match")) (as_document t)
match_stage-is (field k t (field l u fs)) = refl

-- what the rules make of the stages, where more is done with the options and the conditions
abbrev by_rules : {B : Type 0} → (Fields → List Condition → Option B) → Option (List Fields) → Option B
by_rules more found = found >>= λ stages. watch_options stages >>= λ options. filter_stages (behind_first stages) >>= λ filter. more options filter

abbrev by_stages : {B : Type 0} → (Fields → List Condition → Option B) → Option Stages → Option B
by_stages more found = found >>= λ stages. conditions_at stages.filter >>= λ filter. more stages.options filter

abbrev with_one : Option Fields → Option (List Fields) → Option (List Fields)
with_one o r = option_and_then (λ d. option_map (λ ds. d ∷ ds) r) o

abbrev stages_by : Option Fields → Option (Option Fields) → Option Stages
stages_by o behind = o >>= λ stage. only_document (codes "$changeStream") stage >>= λ options. behind >>= λ filter. Some (record { options = options; filter = filter })

alone : {B : Type 0} (more : Fields → List Condition → Option B) (o : Option Fields) → by_rules more (with_one o (Some [])) ≡ by_stages more (stages_by o (Some None))
alone more None = refl
alone more (Some d) = rw watch_stage_options-is (elim (only_document (codes "$changeStream") d) as (λ v. (v >>= λ options. more options []) ≡ by_stages more (v >>= λ options. Some (record { options = options; filter = None }))) [ None ↦ refl | Some options ↦ refl ])

paired : {B : Type 0} (more : Fields → List Condition → Option B) (v w : Option Fields) → (v >>= λ options. option_and_then conditions_of w >>= λ filter. more options filter) ≡ by_stages more (v >>= λ options. (w >>= λ f. Some (Some f)) >>= λ filter. Some (record { options = options; filter = filter }))
paired more None w = refl
paired more (Some options) None = refl
paired more (Some options) (Some f) = refl

two : {B : Type 0} (more : Fields → List Condition → Option B) (o p : Option Fields) → by_rules more (with_one o (with_one p (Some []))) ≡ by_stages more (stages_by o (p >>= λ stage. only_document (codes "$match") stage >>= λ filter. Some (Some filter)))
two more None p = refl
two more (Some d) None = elim (only_document (codes "$changeStream") d) as (λ v. None ≡ by_stages more (v >>= λ options. None)) [ None ↦ refl | Some options ↦ refl ]
two more (Some d) (Some e) = rw (watch_stage_options-is, match_stage-is) (paired more (only_document (codes "$changeStream") d) (only_document (codes "$match") e))

nothing : {B : Type 0} (more : Fields → List Condition → Option B) (v : Option Fields) → None ≡ by_stages more (v >>= λ options. None)
nothing more None = refl
nothing more (Some options) = refl

stuck : {B : Type 0} (v : Option Fields) → ◌≡◌ {A = Option B} (v >>= λ options. None) None
stuck None = refl
stuck (Some options) = refl

three : {B : Type 0} (more : Fields → List Condition → Option B) (o p q : Option Fields) (r : Option (List Fields)) → by_rules more (with_one o (with_one p (with_one q r))) ≡ by_stages more (stages_by o None)
three more None p q r = refl
three more (Some d) None q r = nothing more (only_document (codes "$changeStream") d)
three more (Some d) (Some e) None r = nothing more (only_document (codes "$changeStream") d)
three more (Some d) (Some e) (Some f) None = nothing more (only_document (codes "$changeStream") d)
three more (Some d) (Some e) (Some f) (Some ds) = stuck (watch_stage_options d) ∙ nothing more (only_document (codes "$changeStream") d)

pub stages_rules : {B : Type 0} (more : Fields → List Condition → Option B) (ts : Items) → by_rules more (documents_in ts) ≡ by_stages more (stages_of ts)
unfolding stages_of
stages_rules more no_items = refl
stages_rules more (item t no_items) = alone more (as_document t)
stages_rules more (item t (item u no_items)) = two more (as_document t) (as_document u)
stages_rules more (item t (item u (item v ts))) = three more (as_document t) (as_document u) (as_document v) (documents_in ts)

abbrev asked_by : Opening → List Condition → rules.Request
asked_by o filter = rules.watch (record { target = o.target; filter = filter }) o.start o.resumes o.size

abbrev pub opened : Option Opening → Option rules.Request
opened found = found >>= λ o. conditions_at o.stages.filter >>= λ filter. Some (asked_by o filter)

no_more : (cs : Option (List Condition)) → ◌≡◌ {A = Option rules.Request} (cs >>= λ filter. None) None
no_more None = refl
no_more (Some cs) = refl

abbrev resumes_at : Stages → Bool
resumes_at st = is_some (get (codes "resumeAfter") st.options)

-- the conditions are read first by the rules, and last by the code
aimed : (st : Stages) (target : Option Target) (start : Option Start) (size : Option (Option ℕ))
    → (conditions_at st.filter >>= λ filter. target >>= λ target. start >>= λ start. size >>= λ size. Some (rules.watch (record { target = target; filter = filter }) start (resumes_at st) size))
    ≡ opened (target >>= λ target. start >>= λ start. size >>= λ size. Some (record { target = target; stages = st; start = start; resumes = resumes_at st; size = size }))
aimed st None start size = no_more (conditions_at st.filter)
aimed st (Some target) None size = no_more (conditions_at st.filter)
aimed st (Some target) (Some start) None = no_more (conditions_at st.filter)
aimed st (Some target) (Some start) (Some size) = refl

later : (st : Stages) (b : Bool) (all : Option Bool) (target : Bool → Option Target) (start : Option Start) (size : Option (Option ℕ))
    → (conditions_at st.filter >>= λ filter. if b then (all >>= λ all. target all >>= λ target. start >>= λ start. size >>= λ size. Some (rules.watch (record { target = target; filter = filter }) start (resumes_at st) size)) else None)
    ≡ opened (if b then (all >>= λ all. target all >>= λ target. start >>= λ start. size >>= λ size. Some (record { target = target; stages = st; start = start; resumes = resumes_at st; size = size })) else None)
later st false all target start size = no_more (conditions_at st.filter)
later st true None target start size = no_more (conditions_at st.filter)
later st true (Some all) target start size = aimed st (target all) start size

regroup : (fs : Fields) (found : Option Stages) → by_stages (watch_with fs) found ≡ opened (found >>= opening_with fs)
regroup fs None = refl
regroup fs (Some st) = later st (has_only option_names st.options) (flag_or false (get (codes "allChangesForCluster") st.options)) (target_at fs) (start_of st.options) (batch_size fs)

watch_parts : (fs : Fields) (b : Bool) (a : Option Items) → (if b then by_rules (watch_with fs) (option_and_then documents_in a) else None) ≡ opened (if b then ((a >>= stages_of) >>= opening_with fs) else None)
watch_parts fs false a = refl
watch_parts fs true None = refl
watch_parts fs true (Some ts) = stages_rules (watch_with fs) ts ∙ regroup fs (stages_of ts)

watch_by_opening : (fs : Fields) → watch_request fs ≡ opened (opening_of fs)
unfolding watch_request opening_of
watch_by_opening fs = watch_parts fs (has_only pipeline_fields fs) (array_at (codes "pipeline") fs)

pub watch_none : (fs : Fields) → None ≡ opening_of fs → None ≡ option_map wanted (watch_request fs)
watch_none fs e = sym (ap (option_map wanted) (watch_by_opening fs ∙ ap opened (sym e)))

unfiltered : (o : Opening) (found : Option (List Condition)) → None ≡ option_map (map keyed) found → None ≡ option_map wanted (found >>= λ filter. Some (asked_by o filter))
unfiltered o None none = refl
unfiltered o (Some cs) none = cc

pub watch_unfiltered : (fs : Fields) (o : Opening) → Some o ≡ opening_of fs → None ≡ option_map (map keyed) (conditions_at o.stages.filter) → None ≡ option_map wanted (watch_request fs)
watch_unfiltered fs o e none = unfiltered o (conditions_at o.stages.filter) none ∙ sym (ap (option_map wanted) (watch_by_opening fs ∙ ap opened (sym e)))

filtered : (o : Opening) (found : Option (List Condition)) (filter : List Keyed) → Some filter ≡ option_map (map keyed) found → Some (watch o.target filter o.start o.resumes o.size) ≡ option_map wanted (found >>= λ filter. Some (asked_by o filter))
filtered o None filter some = cc
filtered o (Some cs) filter some =
    let same : filter ≡ map keyed cs = cc in
    ap (λ (f : List Keyed). Some (watch o.target f o.start o.resumes o.size)) same

pub watch_some : (fs : Fields) (o : Opening) (filter : List Keyed) → Some o ≡ opening_of fs → Some filter ≡ option_map (map keyed) (conditions_at o.stages.filter) → Some (watch o.target filter o.start o.resumes o.size) ≡ option_map wanted (watch_request fs)
watch_some fs o filter e some = filtered o (conditions_at o.stages.filter) filter some ∙ sym (ap (option_map wanted) (watch_by_opening fs ∙ ap opened (sym e)))
