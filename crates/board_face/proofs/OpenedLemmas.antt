-- A board that was just opened: nobody has a buffer, no text lies anywhere, and nothing is owed.
use Rattle.std.{proofs.Common.{◌≡◌, ℕ, zero, suc, ◌<◌, List, [], ◌∷◌, length, get_or, replicate, Bool, refl, sym, subst, arith}, specs.List.{flat_map}}
use Rattle.std.specs.Prelude.{All, true, false, nat_eq, count_by, ◌==◌, if◌then◌else◌}
use Rattle.std.proofs.lemmas.List.Elements.{All-nil, All-cons, All-head, All-tail, All-drop, All-weaker}
use Rattle.area_layout.specs.Layout.{pool_buffers, size_of}
use Rattle.board_face.specs.{AppEvents.{begin_place}, Holders.{ended_in}, Counts.{pool_count, user_count}, Sides.{AreNumbered}, Fillings.{IsFilledByOne, FillingsFit}}
use Rattle.board_face.specs.{Places.{has_byte, is_empty, ends_behind, ArePlaced}, Shown.{IsShown, text_of, AppIsShown, AreShown}, Opened.{new_nic, new_app, new_apps}}
use Rattle.board_face.specs.declared.views.{parts.{Setting.{Setting}, Filling.{Filling}}, nic.{PlacedText.{PlacedText}, SentNote.{SentNote}}, app.HeldPiece.{HeldPiece}}
use Rattle.board_face.{specs.declared.views.app.{LentPiece.{LentPiece}, SpareOwn.{SpareOwn}, AppSide.{AppSide}}, proofs.Tallies.{total}}
use Rattle.board_face.proofs.{Parts.{app_count, user_part, pool_count-parts, user_count-parts}, IsFilledByOneLemmas.{IsFilledByOne-from, fillings-held}}
use Rattle.board_face.proofs.{FillingsFitLemmas.{IsFit, AreFit}, ArePlacedLemmas.{IsBehind, places-none}}

-- the application has done nothing
abbrev pub IsNew : Setting → AppSide → Type 0
IsNew setting app = app ≡ new_app setting app.view.app

-- a list of one number alone has it everywhere, past its end too
pub all-alike : (n i z : ℕ) → get_or (replicate n z) i z ≡ z
all-alike zero i z = refl
all-alike (suc n) zero z = refl
all-alike (suc n) (suc i) z = all-alike n i z

all-new : (P : AppSide → Type 0) (setting : Setting) → ((a : ℕ) → P (new_app setting a)) → (apps : List AppSide) → All (IsNew setting) apps
    → All P apps
all-new P setting each apps news = All-weaker (IsNew setting) P (λ app is. subst P (sym is) (each app.view.app)) apps news

none-held : (b : ℕ) (setting : Setting) (apps : List AppSide) → All (IsNew setting) apps → total (app_count b (new_nic setting)) apps ≡ 0
none-held b setting [] news = refl
none-held b setting (app ∷ apps) news =
    let new : app_count b (new_nic setting) (new_app setting app.view.app) ≡ 0 = omega arith in
    let here : app_count b (new_nic setting) app ≡ 0 = subst (λ (x : AppSide). app_count b (new_nic setting) x ≡ 0)
    (sym (All-head (IsNew setting) app apps news)) new in
    omega (arith, here, none-held b setting apps (All-tail (IsNew setting) app apps news))

pub pool_count-opened : (b : ℕ) (setting : Setting) (apps : List AppSide) → All (IsNew setting) apps → pool_count b (new_nic setting) apps ≡ 0
pool_count-opened b setting apps news = omega (arith, pool_count-parts b (new_nic setting) apps, none-held b setting apps news)

pub IsFilledByOne-opened : (b : ℕ) (setting : Setting) (apps : List AppSide) → All (IsNew setting) apps → IsFilledByOne b (new_nic setting) apps
IsFilledByOne-opened b setting apps news =
    let none = pool_count-opened b setting apps news in
    let held = fillings-held b (new_nic setting) apps in
    IsFilledByOne-from b (new_nic setting) apps (omega arith) (λ some. absurd (omega arith)) (λ _. none)

pub FillingsFit-opened : (setting : Setting) (apps : List AppSide) → All (IsNew setting) apps → FillingsFit (new_nic setting) apps
FillingsFit-opened setting apps news = record {
  of_pool = All-nil (λ (o : Filling). o.buffer < pool_buffers setting.layout);
  card = All-nil (IsFit (new_nic setting));
  sides = all-new (λ app. AreFit (new_nic setting) app.view.owns) setting (λ a. All-nil (λ (s : SpareOwn). IsFit (new_nic setting) s.own)) apps news;
}

pub ArePlaced-opened : (b : ℕ) (setting : Setting) (apps : List AppSide) → All (IsNew setting) apps → ArePlaced b (new_nic setting) apps
ArePlaced-opened b setting apps news =
    let nic = new_nic setting in
    let free = pool_count-opened b setting apps news in
    record {
      some_bytes = places-none b is_empty nic apps free;
      within = places-none b (ends_behind (size_of setting.layout b)) nic apps free;
      apart = λ x. omega (arith, places-none b (has_byte x) nic apps free);
      behind = All-nil (IsBehind b nic apps);
    }

module _ (byte : ℕ → ℕ → ℕ) where
  pub AppIsShown-opened : (setting : Setting) (a : ℕ) → AppIsShown byte (new_nic setting) (new_app setting a)
  AppIsShown-opened setting a =
      let nic = new_nic setting in
      let app = new_app setting a in
      let P : LentPiece → Type 0 = λ l. IsShown byte l.place (text_of nic app l.origin l.place) in
      record {
        sent = All-nil (λ (s : SentNote). s.note.split ≡ true → IsShown byte s.note.place s.bytes);
        helds = All-nil (λ (h : HeldPiece). IsShown byte h.place (text_of nic app h.origin h.place));
        spares = All-nil (λ (s : SpareOwn). IsShown byte (begin_place s.own.buffer (length s.bytes)) s.bytes);
        loans = All-nil P;
        owed = λ b. All-drop P (ended_in b nic app) [] (All-nil P);
      }

  pub AreShown-opened : (setting : Setting) (apps : List AppSide) → All (IsNew setting) apps → AreShown byte (new_nic setting) apps
  AreShown-opened setting apps news = record {
    card = record { pieces = All-nil (λ (p : PlacedText). IsShown byte p.place p.bytes) };
    apps = all-new (AppIsShown byte (new_nic setting)) setting (AppIsShown-opened setting) apps news;
    places = λ b. ArePlaced-opened b setting apps news;
  }

-- ---- applications that have done nothing

pub length-new_apps : (s : Setting) (first n : ℕ) → length (new_apps s first n) ≡ n
length-new_apps s first zero = refl
length-new_apps s first (suc n) = omega (arith, length-new_apps s (suc first) n)

pub numbered-new_apps : (s : Setting) (first n : ℕ) → AreNumbered first (new_apps s first n)
numbered-new_apps s first zero = tt
numbered-new_apps s first (suc n) = (refl, numbered-new_apps s (suc first) n)

-- what holds of each application that has done nothing
pub All-new : (P : AppSide → Type 0) (s : Setting) (first n : ℕ) → ((a : ℕ) → P (new_app s a)) → All P (new_apps s first n)
All-new P s first zero each = All-nil P
All-new P s first (suc n) each = All-cons P (new_app s first) (new_apps s (suc first) n) (each first) (All-new P s (suc first) n each)

sum-new : (f : AppSide → ℕ) (s : Setting) (first n : ℕ) → ((a : ℕ) → f (new_app s a) ≡ 0) → total f (new_apps s first n) ≡ 0
sum-new f s first zero each = refl
sum-new f s first (suc n) each = omega (arith, each first, sum-new f s (suc first) n each)

pub hands-new : (b : ℕ) (s : Setting) (first n : ℕ) → count_by (nat_eq b) (flat_map (λ app. app.inside.hands) (new_apps s first n)) ≡ 0
hands-new b s first zero = refl
hands-new b s first (suc n) = hands-new b s (suc first) n

app-none : (b : ℕ) (s : Setting) (a : ℕ) → app_count b (new_nic s) (new_app s a) ≡ 0
app-none b s a = omega arith

user-case : (c : Bool) (n m : ℕ) → n ≡ 0 → m ≡ 0 → (if c then n else m) ≡ 0
user-case true n m e f = e
user-case false n m e f = f

user-none : (x b : ℕ) (s : Setting) (a : ℕ) → user_part x b (new_nic s) (new_app s a) ≡ 0
user-none x b s a = user-case (a == x) _ _ (omega arith) refl

pub count-new : (b : ℕ) (s : Setting) (n : ℕ) → pool_count b (new_nic s) (new_apps s 0 n) ≡ 0
count-new b s n = omega (arith, pool_count-parts b (new_nic s) (new_apps s 0 n), sum-new (app_count b (new_nic s)) s 0 n (app-none b s))

pub users-new : (a b : ℕ) (s : Setting) (n : ℕ) → user_count a b (new_nic s) (new_apps s 0 n) ≡ 0
users-new a b s n = omega (arith, user_count-parts a b (new_nic s) (new_apps s 0 n), sum-new (user_part a b (new_nic s)) s 0 n (user-none a b s))

pub news : (s : Setting) (first n : ℕ) → All (IsNew s) (new_apps s first n)
news s first n = All-new (IsNew s) s first n (λ a. refl)
