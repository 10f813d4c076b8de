-- A recorder whose other makes no calls is on the shared list as on a list of its own (as_alone): each call does there what it does alone, and both recorders'
-- arrays keep their shape. Assumes nothing.
use mathlib.Core.Path.{◌≡◌, refl, sym, ap, ap₂, ◌∙◌, subst}
use mathlib.Core.List.{List, [], ◌∷◌}
use Rattle.words.specs.Answers.{Answer}
use Rattle.list.specs.Holds.{HeldList}
use Rattle.list_laws.specs.Calls.{Call, call_all, after}
use Rattle.list_shared.specs.Shared.{Shared}
use Rattle.shared_law.specs.Recorders.{Recorder, SharedList, own, made, makes, run, FreshShared}
use Rattle.shared_law.specs.Alone.{told, own_answers, answers_of}
use Rattle.shared_law.specs.NotNoticed.{AsAlone}
use Rattle.shared_law.proofs.SharedCalls.{BothShaped, called, shared_shaped, shared_call}
use Rattle.shared_law.proofs.Runs.{seen, seen_own, same_self, fresh_shaped}

shaped_alone : (r : Recorder) (o : SharedList) (cs : List Call) → BothShaped (seen r o) → AsAlone r o cs
unfolding run after own_answers answers_of
shaped_alone r o [] s = record { list = refl; answers = refl }
shaped_alone r o (c ∷ cs) s =
    let m = made o (makes r c) in
    let q = shared_call (seen r o) c s in
    let next : seen r m ≡ called (seen r o) c = seen_own r o c ∙ q.1 in
    let left : own r m ≡ (call_all (own r o) c).left = ap (λ (a : Shared). a.own) next in
    let rest = shaped_alone r m cs (subst BothShaped (sym next) (shared_shaped (seen r o) c s)) in
    record {
      list = rest.list ∙ ap (λ (h : HeldList). after h cs) left;
      answers =
          rw (same_self r)
          (ap₂ (λ (x : Answer) (xs : List Answer). told c x ∷ xs) q.0 (rest.answers ∙ ap (λ (h : HeldList). answers_of h cs) left));
    }

pub as_alone : (r : Recorder) (o : SharedList) (cs : List Call) → FreshShared o → AsAlone r o cs
as_alone r o cs f = shaped_alone r o cs (fresh_shaped r o f)
