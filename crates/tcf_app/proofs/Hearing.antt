-- What is heard of files that are read from the left.
use Rattle.std.proofs.Common.{◌≡◌, ℕ, zero, suc, ◌+◌, ◌<◌, ◌≤◌, List, [], ◌∷◌, ◌++◌, length, take, Bool, true, false, refl, sym, ap, ◌∙◌, subst, arith, length-append, zero-add, add-zero, add-one}
use Rattle.std.specs.Prelude.{Option, None, Some, IfSome, map, nat_lt, if◌then◌else◌}
use Rattle.std.specs.List.{AllByRecursion}
use Rattle.std.proofs.lemmas.Bool.{ltb-true, ltb-false}
use Rattle.std.proofs.lemmas.List.{take_all}
use Rattle.tcf_outside.specs.Files.{FilesSeen, content_of, read_of}
use Rattle.tcf_outside.specs.declared.files.FileRead.{FileRead}
use Rattle.tcf_outside.specs.declared.files.FileRead.TheVariants.{Whole, Longer}
use Rattle.tcf_outside.specs.declared.files.HeldFile.{HeldFile}
use Rattle.tcf_app.specs.declared.reading.Unread.{Unread}
use Rattle.tcf_app.specs.declared.reading.Unread.TheVariants as unread
use Rattle.tcf_app.specs.Heard.{Heard, whole, longer, failed, most_file, heard_first, heard_in, IsOf, Agrees, Counts, AreNoted, IsLastRead, Hears, HearsPart, IsHeld, AreHeld, IsFirstLong, FailsLast}
use Rattle.tcf_app.specs.Reading.{IsWholly, IsUnread, CountsUnread, NotesFailed}

-- ---- where something is told

pub some_so : {A : Type 0} (P Q : A → Type 0) (o : Option A) → ((x : A) → P x → Q x) → IfSome o P → IfSome o Q
some_so P Q None f h = tt
some_so P Q (Some x) f h = f x h

pub some_each : {A : Type 0} (Q : A → Type 0) (o : Option A) → ((x : A) → Q x) → IfSome o Q
some_each Q None f = tt
some_each Q (Some x) f = f x

some_both : {A : Type 0} (P Q R : A → Type 0) (o : Option A) → ((x : A) → P x → Q x → R x) → IfSome o P → IfSome o Q → IfSome o R
some_both P Q R None f h k = tt
some_both P Q R (Some x) f h k = f x h k

-- ---- files, and others behind them

abbrev behind : Heard → Heard → Heard
behind (whole contents) (whole more) = whole (contents ++ more)
behind (whole contents) (longer before) = longer (length contents + before)
behind (whole contents) (failed before) = failed (length contents + before)
behind (longer before) later = longer before
behind (failed before) later = failed before

first_behind : (answer : FileRead) (first later : Heard) → heard_first answer (behind first later) ≡ behind (heard_first answer first) later
first_behind Longer first later = refl
first_behind (Whole bytes) (whole contents) (whole more) = refl
first_behind (Whole bytes) (whole contents) (longer before) = let e : length contents + before + 1 ≡ suc (length contents) + before = omega arith in ap longer e
first_behind (Whole bytes) (whole contents) (failed before) = let e : length contents + before + 1 ≡ suc (length contents) + before = omega arith in ap failed e
first_behind (Whole bytes) (longer before) later = refl
first_behind (Whole bytes) (failed before) later = refl

none_behind : (later : Heard) → later ≡ behind (whole []) later
none_behind (whole contents) = refl
none_behind (longer before) = ap longer (sym (zero-add before))
none_behind (failed before) = ap failed (sym (zero-add before))

heard_both : (names more : List (List ℕ)) (files : List HeldFile) → heard_in (names ++ more) files ≡ behind (heard_in names files) (heard_in more files)
heard_both [] more files = none_behind (heard_in more files)
heard_both (name ∷ names) more files =
    let answer = read_of (content_of name files) most_file in
    ap (heard_first answer) (heard_both names more files) ∙ first_behind answer (heard_in names files) (heard_in more files)

-- ---- one file

one_whole_in : (name bytes : List ℕ) (files : List HeldFile) → Whole bytes ≡ read_of (content_of name files) most_file → whole (bytes ∷ []) ≡ heard_in (name ∷ []) files
one_whole_in name bytes files is = ap (λ a. heard_first a (whole [])) is

long_in : (name : List ℕ) (more : List (List ℕ)) (files : List HeldFile) → Longer ≡ read_of (content_of name files) most_file → longer 0 ≡ heard_in (name ∷ more) files
long_in name more files is = ap (λ a. heard_first a (heard_in more files)) is

pub one_whole : (name : List ℕ) (before after : FilesSeen) (bytes : List ℕ) → IsWholly name before.held bytes → after.faults ≡ before.faults → Hears (name ∷ []) before after (whole (bytes ∷ []))
one_whole name before after bytes is calm =
    record {
      is_of = refl;
      agrees = some_so (λ fs. Whole bytes ≡ read_of (content_of name fs) most_file) (Agrees (name ∷ []) (whole (bytes ∷ []))) before.held (λ fs e. one_whole_in name bytes fs e) is;
      counts = calm;
      last = tt;
    }

-- ---- files so far

-- so many files were read whole
pub record SoFar (names : List (List ℕ)) (count : ℕ) (files : Option (List HeldFile)) (contents : List (List ℕ)) : Type 0 where
  pub size : length contents ≡ count
  pub agrees : IfSome files (λ fs. whole contents ≡ heard_in (take count names) fs)

pub far_none : (names : List (List ℕ)) (files : Option (List HeldFile)) → SoFar names 0 files []
far_none names files = record { size = refl; agrees = some_each (λ fs. whole [] ≡ heard_in [] fs) files (λ fs. refl) }

whole_more : (names contents : List (List ℕ)) (name bytes : List ℕ) (files : List HeldFile) → whole contents ≡ heard_in names files → Whole bytes ≡ read_of (content_of name files) most_file
    → whole (contents ++ bytes ∷ []) ≡ heard_in (names ++ name ∷ []) files
whole_more names contents name bytes files first is =
    ap (λ h. behind h (whole (bytes ∷ []))) first
    ∙ ap (λ h. behind (heard_in names files) h) (one_whole_in name bytes files is)
    ∙ sym (heard_both names (name ∷ []) files)

-- and the next one
pub far_more : (names : List (List ℕ)) (count : ℕ) (files : Option (List HeldFile)) (contents : List (List ℕ)) (name bytes : List ℕ) → SoFar names count files contents
    → take (count + 1) names ≡ take count names ++ name ∷ [] → IsWholly name files bytes → SoFar names (count + 1) files (contents ++ bytes ∷ [])
far_more names count files contents name bytes so_far next is =
    record {
      size = length-append contents (bytes ∷ []) ∙ ap (λ n. n + 1) so_far.size;
      agrees =
          some_both (λ fs. whole contents ≡ heard_in (take count names) fs) (λ fs. Whole bytes ≡ read_of (content_of name fs) most_file) (λ fs. whole (contents ++ bytes ∷ []) ≡ heard_in (take (count + 1) names) fs) files
          (λ fs first e. whole_more (take count names) contents name bytes fs first e ∙ ap (λ ns. heard_in ns fs) (sym next))
          so_far.agrees is;
    }

-- all were
pub far_all : (names : List (List ℕ)) (count : ℕ) (before after : FilesSeen) (contents : List (List ℕ)) → SoFar names count before.held contents → count ≡ length names
    → after.faults ≡ before.faults → Hears names before after (whole contents)
far_all names count before after contents so_far all calm =
    record {
      is_of = so_far.size ∙ all;
      agrees =
          some_so (λ fs. whole contents ≡ heard_in (take count names) fs) (Agrees names (whole contents)) before.held
          (λ fs e. e ∙ ap (λ ns. heard_in ns fs) (take_all count names (omega arith))) so_far.agrees;
      counts = calm;
      last = tt;
    }

longer_at : (names : List (List ℕ)) (count : ℕ) (files : List HeldFile) (contents : List (List ℕ)) (name : List ℕ) (rest : List (List ℕ)) → names ≡ take count names ++ name ∷ rest
    → length contents ≡ count → whole contents ≡ heard_in (take count names) files → Longer ≡ read_of (content_of name files) most_file → longer count ≡ heard_in names files
longer_at names count files contents name rest parts size first is =
    ap longer (sym (add-zero (length contents) ∙ size))
    ∙ ap (λ h. behind h (longer 0)) first
    ∙ ap (λ h. behind (heard_in (take count names) files) h) (long_in name rest files is)
    ∙ sym (heard_both (take count names) (name ∷ rest) files)
    ∙ ap (λ ns. heard_in ns files) (sym parts)

-- the next one wasn't read whole
pub far_part : (names : List (List ℕ)) (count : ℕ) (before after : FilesSeen) (contents : List (List ℕ)) (name : List ℕ) (rest : List (List ℕ)) (u : Unread)
    → SoFar names count before.held contents → names ≡ take count names ++ name ∷ rest → count < length names → IsUnread name count before.held u
    → CountsUnread before.faults after.faults u → NotesFailed (take (count + 1) names) before after u → HearsPart names before after u
far_part names count before after contents name rest (unread.Longer at) so_far parts below is counts noted =
    subst (λ k. Hears names before after (longer k)) (sym is.place)
    (record {
      is_of = below;
      agrees =
          some_both (λ fs. whole contents ≡ heard_in (take count names) fs) (λ fs. Longer ≡ read_of (content_of name fs) most_file) (Agrees names (longer count)) before.held
          (λ fs first e. longer_at names count fs contents name rest parts so_far.size first e)
          so_far.agrees is.why;
      counts = counts;
      last = tt;
    })
far_part names count before after contents name rest (unread.Failed at) so_far parts below is counts noted =
    subst (λ k. Hears names before after (failed k)) (sym is)
    (record {
      is_of = below;
      agrees = some_so (λ fs. whole contents ≡ heard_in (take count names) fs) (Agrees names (failed count)) before.held (λ fs e. (contents, e)) so_far.agrees;
      counts = counts;
      last = noted;
    })
far_part names count before after contents name rest unread.NoMemory so_far parts below is counts noted = counts

-- memory was wanting behind a file that was read
pub far_wanting : (names : List (List ℕ)) (before after : FilesSeen) (u : Unread) → u ≡ unread.NoMemory → after.faults ≡ before.faults → HearsPart names before after u
far_wanting names before after u is calm = subst (HearsPart names before after) (sym is) calm

pub one_part : (name : List ℕ) (before after : FilesSeen) (u : Unread) → IsUnread name 0 before.held u → CountsUnread before.faults after.faults u → NotesFailed (name ∷ []) before after u
    → HearsPart (name ∷ []) before after u
one_part name before after u is counts noted = far_part (name ∷ []) 0 before after [] name [] u (far_none (name ∷ []) before.held) refl (omega arith) is counts noted

-- ---- what that says of the files

-- what is heard where no read fails is of all files
pub heard_is_of : (names : List (List ℕ)) (files : List HeldFile) → IsOf (length names) (heard_in names files)
heard_is_of [] files = refl
heard_is_of (name ∷ names) files = by_first (read_of (content_of name files) most_file) (heard_in names files) (heard_is_of names files)
  where
    by_first : (answer : FileRead) (later : Heard) → IsOf (length names) later → IsOf (suc (length names)) (heard_first answer later)
    by_first Longer later is = omega arith
    by_first (Whole bytes) (whole contents) is = ap suc is
    by_first (Whole bytes) (longer before) is = omega (arith, is)
    by_first (Whole bytes) (failed before) is = omega (arith, is)

-- and no failed read
abbrev pub NotFailed : Heard → Type 0
NotFailed (whole contents) = Unit {0}
NotFailed (longer before) = Unit {0}
NotFailed (failed before) = ⊥

heard_not_failed : (names : List (List ℕ)) (files : List HeldFile) → NotFailed (heard_in names files)
heard_not_failed [] files = tt
heard_not_failed (name ∷ names) files = by_first (read_of (content_of name files) most_file) (heard_in names files) (heard_not_failed names files)
  where
    by_first : (answer : FileRead) (later : Heard) → NotFailed later → NotFailed (heard_first answer later)
    by_first Longer later is = tt
    by_first (Whole bytes) (whole contents) is = tt
    by_first (Whole bytes) (longer before) is = tt
    by_first (Whole bytes) (failed before) is = is

agrees_itself : (names : List (List ℕ)) (files : List HeldFile) (heard : Heard) → heard ≡ heard_in names files → NotFailed heard → Agrees names heard files
agrees_itself names files (whole contents) is good = is
agrees_itself names files (longer before) is good = is
agrees_itself names files (failed before) is good = absurd good

counts_itself : (heard : Heard) (n m : ℕ) → NotFailed heard → m ≡ n → Counts heard n m
counts_itself (whole contents) n m good calm = calm
counts_itself (longer before) n m good calm = calm
counts_itself (failed before) n m good calm = absurd good

last_itself : (names : List (List ℕ)) (heard : Heard) (before after : FilesSeen) → NotFailed heard → IsLastRead names heard before after
last_itself names (whole contents) before after good = tt
last_itself names (longer place) before after good = tt
last_itself names (failed place) before after good = absurd good

-- what is heard where no read fails, and the files are told or not
abbrev heard_over : List (List ℕ) → Option (List HeldFile) → Heard
heard_over names None = heard_in names []
heard_over names (Some files) = heard_in names files

over_is_of : (names : List (List ℕ)) (held : Option (List HeldFile)) → IsOf (length names) (heard_over names held)
over_is_of names None = heard_is_of names []
over_is_of names (Some files) = heard_is_of names files

over_not_failed : (names : List (List ℕ)) (held : Option (List HeldFile)) → NotFailed (heard_over names held)
over_not_failed names None = heard_not_failed names []
over_not_failed names (Some files) = heard_not_failed names files

over_agrees : (names : List (List ℕ)) (held : Option (List HeldFile)) → IfSome held (Agrees names (heard_over names held))
over_agrees names None = tt
over_agrees names (Some files) = agrees_itself names files (heard_in names files) refl (heard_not_failed names files)

-- something can be heard, before anything was
pub record CanHear (names : List (List ℕ)) (before after : FilesSeen) : Type 0 where
  pub heard : Heard
  pub hears : Hears names before after heard
  pub good : NotFailed heard

pub can_hear : (names : List (List ℕ)) (before after : FilesSeen) → after.faults ≡ before.faults → CanHear names before after
can_hear names before after calm =
    let heard = heard_over names before.held in
    let good = over_not_failed names before.held in
    record {
      heard = heard;
      hears = record {
        is_of = over_is_of names before.held;
        agrees = over_agrees names before.held;
        counts = counts_itself heard before.faults after.faults good calm;
        last = last_itself names heard before after good;
      };
      good = good;
    }

-- a file is within the limit and is what is read, or it isn't
abbrev IsRead : List ℕ → FileRead → Type 0
IsRead bytes (Whole file) = (file ≡ bytes) × (length bytes ≤ most_file)
IsRead bytes Longer = most_file < length bytes

read_is : (bytes : List ℕ) → IsRead bytes (read_of bytes most_file)
read_is bytes = by_test (nat_lt most_file (length bytes)) refl
  where
    by_test : (b : Bool) → nat_lt most_file (length bytes) ≡ b → IsRead bytes (if b then Longer else Whole bytes)
    by_test true is = ltb-true most_file (length bytes) is
    by_test false is = (refl, ltb-false most_file (length bytes) is)

pub contents_are : (names contents : List (List ℕ)) (files : List HeldFile) → whole contents ≡ heard_in names files → contents ≡ map (λ name. content_of name files) names
contents_are [] contents files is = cc
contents_are (name ∷ names) contents files is =
    by_first (read_of (content_of name files) most_file) (heard_in names files) (read_is (content_of name files)) (λ cs e. contents_are names cs files e) is
  where
    by_first : (answer : FileRead) (later : Heard) → IsRead (content_of name files) answer → ((cs : List (List ℕ)) → whole cs ≡ later → cs ≡ map (λ n. content_of n files) names)
        → whole contents ≡ heard_first answer later → contents ≡ content_of name files ∷ map (λ n. content_of n files) names
    by_first Longer later read rest e = cc
    by_first (Whole bytes) (whole cs) read rest e =
        let same : contents ≡ bytes ∷ cs = cc in
        same ∙ ap (λ b. b ∷ cs) read.0 ∙ ap (λ r. content_of name files ∷ r) (rest cs refl)
    by_first (Whole bytes) (longer before) read rest e = cc
    by_first (Whole bytes) (failed before) read rest e = cc

-- one file has what was read
pub content_is : (name bytes : List ℕ) (before after : FilesSeen) → Hears (name ∷ []) before after (whole (bytes ∷ [])) → IsHeld name bytes before
content_is name bytes before after h =
    some_so (Agrees (name ∷ []) (whole (bytes ∷ []))) (λ fs. bytes ≡ content_of name fs) before.held (λ fs e. let all = contents_are (name ∷ []) (bytes ∷ []) fs e in cc) h.agrees

pub are_held : (names contents : List (List ℕ)) (before after : FilesSeen) → Hears names before after (whole contents) → AreHeld names contents before
are_held names contents before after h =
    record {
      count = h.is_of;
      held = some_so (Agrees names (whole contents)) (λ fs. contents ≡ map (λ name. content_of name fs) names) before.held (λ fs e. contents_are names contents fs e) h.agrees;
    }

pub first_long : (names : List (List ℕ)) (before : ℕ) (files : List HeldFile) → longer before ≡ heard_in names files → IsFirstLong names before files
first_long [] before files is = cc
first_long (name ∷ names) before files is =
    by_first (read_of (content_of name files) most_file) (heard_in names files) (read_is (content_of name files)) (λ k e. first_long names k files e) is
  where
    by_first : (answer : FileRead) (later : Heard) → IsRead (content_of name files) answer → ((k : ℕ) → longer k ≡ later → IsFirstLong names k files)
        → longer before ≡ heard_first answer later → IsFirstLong (name ∷ names) before files
    by_first Longer later read rest e =
        let none : before ≡ 0 = cc in
        record { earlier = []; name = name; later = names; parts = refl; place = none; within = tt; long = read }
    by_first (Whole bytes) (whole cs) read rest e = cc
    by_first (Whole bytes) (longer k) read rest e =
        let next : before ≡ k + 1 = cc in
        let f = rest k refl in
        record {
          earlier = name ∷ f.earlier;
          name = f.name;
          later = f.later;
          parts = ap (λ ns. name ∷ ns) f.parts;
          place = next ∙ add-one k ∙ ap suc f.place;
          within = (read.1, f.within);
          long = f.long;
        }
    by_first (Whole bytes) (failed k) read rest e = cc

-- files that were read whole are within the limit
all_within : (names contents : List (List ℕ)) (files : List HeldFile) → whole contents ≡ heard_in names files → AllByRecursion (λ n. length (content_of n files) ≤ most_file) names
all_within [] contents files is = tt
all_within (name ∷ names) contents files is =
    by_first (read_of (content_of name files) most_file) (heard_in names files) (read_is (content_of name files)) (λ cs e. all_within names cs files e) is
  where
    by_first : (answer : FileRead) (later : Heard) → IsRead (content_of name files) answer
        → ((cs : List (List ℕ)) → whole cs ≡ later → AllByRecursion (λ n. length (content_of n files) ≤ most_file) names)
        → whole contents ≡ heard_first answer later → AllByRecursion (λ n. length (content_of n files) ≤ most_file) (name ∷ names)
    by_first Longer later read rest e = cc
    by_first (Whole bytes) (whole cs) read rest e = (read.1, rest cs refl)
    by_first (Whole bytes) (longer k) read rest e = cc
    by_first (Whole bytes) (failed k) read rest e = cc

-- the name at a place, and those before it
record Placed (names : List (List ℕ)) (i : ℕ) : Type 0 where
  name : List ℕ
  later : List (List ℕ)
  parts : names ≡ take i names ++ name ∷ later
  next : take (suc i) names ≡ take i names ++ name ∷ []

placed : (names : List (List ℕ)) (i : ℕ) → i < length names → Placed names i
placed [] i below = absurd (omega (arith, below))
placed (name ∷ names) zero below = record { name = name; later = names; parts = refl; next = refl }
placed (name ∷ names) (suc i) below =
    let p = placed names i (omega (arith, below)) in
    record { name = p.name; later = p.later; parts = ap (λ ns. name ∷ ns) p.parts; next = ap (λ ns. name ∷ ns) p.next }

pub fails_last : (names : List (List ℕ)) (count : ℕ) (before after : FilesSeen) → Hears names before after (failed count) → FailsLast names before after
fails_last names count before after h =
    let p = placed names count h.is_of in
    record {
      earlier = take count names;
      name = p.name;
      later = p.later;
      parts = p.parts;
      within =
          some_so (Agrees names (failed count)) (λ fs. AllByRecursion (λ n. length (content_of n fs) ≤ most_file) (take count names)) before.held
          (λ fs e. all_within (take count names) e.0 fs e.1) h.agrees;
      told = subst (λ read. AreNoted read before after) (ap (λ n. take n names) (add-one count) ∙ p.next) h.last;
      counts = h.counts;
    }

-- what was heard where no read failed is what the files hold
pub heard_of_held : (names : List (List ℕ)) (heard : Heard) (files : List HeldFile) → Agrees names heard files → NotFailed heard → heard ≡ heard_in names files
heard_of_held names (whole contents) files is good = is
heard_of_held names (longer before) files is good = is
heard_of_held names (failed before) files is good = absurd good
