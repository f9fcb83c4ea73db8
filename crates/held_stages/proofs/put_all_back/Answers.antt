-- `held_stages::put_all_back` meets its contract. Assumes nothing.
use Rattle.held_stages.specs.Carried.{back_none, romans-asked, texts-asked, back_whole}
use Rattle.held_stages.proofs.put_all_back.Goals as goal

pub returns-then-held-eq0-clause-answered : goal.returns-then-held-eq0-clause-answered
returns-then-held-eq0-clause-answered c = λ h carries. back_none carries c.in_ok-place.was c.if-held-eq0.true

pub put_back-half-requires : goal.put_back-half-requires
put_back-half-requires c = romans-asked c.requires.carries c.in_ok-place.was

pub put_back-n-requires : goal.put_back-n-requires
put_back-n-requires c = texts-asked c.requires.carries c.in_ok-place.was c.put_back-half.ensures

pub returns-clause-answered : goal.returns-clause-answered
returns-clause-answered c = λ h carries. back_whole carries c.in_ok-place.was c.put_back-half.ensures c.put_back-n.ensures
